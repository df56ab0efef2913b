-- Visits that come sooner.
use Rattle.std.specs.Prelude.{◌≡◌, ℕ, ◌+◌, ◌≤◌, ⊤, List, [], ◌∷◌}
use Rattle.ride_model.specs.declared.vehicle.Stop.{Stop}

-- two visits of one stop, the first sooner by gain
pub record SoonerBy (gain : ℕ) (a b : Stop × ℕ) : Type 0 where
  pub ride_is : a.0.ride ≡ b.0.ride
  pub kind_is : a.0.kind ≡ b.0.kind
  pub node_is : a.0.node ≡ b.0.node
  pub time_is : a.1 + gain ≡ b.1

-- visits of the same stops in the same order, each sooner than the other list's by at least gain, and by no less than the one
-- before it: no stop is later, and no two stops are farther apart
abbrev pub AllSooner : ℕ → List (Stop × ℕ) → List (Stop × ℕ) → Type 0
AllSooner gain [] [] = ⊤
AllSooner gain [] (b ∷ bs) = ⊥
AllSooner gain (a ∷ as') [] = ⊥
AllSooner gain (a ∷ as') (b ∷ bs) = (more : ℕ) × (gain ≤ more) × SoonerBy more a b × AllSooner more as' bs
