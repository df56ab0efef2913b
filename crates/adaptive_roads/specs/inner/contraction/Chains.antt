-- Chains of numbered links.
use Rattle.std.specs.Prelude.{◌≡◌, ℕ, suc, ◌<◌, ◌≤◌}

-- The links of each node in a chain. A number `suc place` names the link at a place, and 0 is the end of a chain. What
-- follows a link stands before it, and each live link of a node is in its chain: it stands before each number of the
-- chain behind which it comes.
pub record IsChained (count : ℕ) (node first next : ℕ → ℕ) (IsLive : ℕ → Type 0) : Type 0 where
  pub first_node : (x place : ℕ) → first x ≡ suc place → (place < count) × (node place ≡ x)
  pub next_lower : (place : ℕ) → place < count → next place ≤ place
  pub next_node : (place later : ℕ) → place < count → next place ≡ suc later → node later ≡ node place
  pub all_first : (place : ℕ) → place < count → IsLive place → place < first (node place)
  pub all_next : (place later : ℕ) → place < later → later < count → node place ≡ node later → IsLive place → place < next later
