-- The levels of nodes.
use Rattle.std.specs.Prelude.{◌≡◌, ℕ, ◌<◌, ◌≤◌, ◌⊎◌, List, length, slice_index_or}

-- the level of a node, above all others for those of the core
abbrev pub level_in : List ℕ → ℕ → ℕ
level_in levels node = slice_index_or levels node 4294967295

-- contracted nodes have the levels below the core, and stand in the order of their levels
pub record IsOrdered (nodes : ℕ) (levels order : List ℕ) : Type 0 where
  pub short : length order < 4294967295
  pub cored : (x : ℕ) → (level_in levels x < length order) ⊎ (level_in levels x ≡ 4294967295)
  pub listed : (k : ℕ) → k < length order → (1 ≤ slice_index_or order k 0) × (slice_index_or order k 0 ≤ nodes)
      × (level_in levels (slice_index_or order k 0) ≡ k)
  -- a level is that of one node
  pub distinct : (x : ℕ) → level_in levels x < length order → slice_index_or order (level_in levels x) 0 ≡ x
