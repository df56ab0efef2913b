-- Ways over arcs of any kind. A walk of a map is a way over its arcs.
use Rattle.std.specs.Prelude.{◌≡◌, ℕ, ◌≤◌, List, [], ◌∷◌}
use Rattle.ride_model.specs.declared.network.RoadArc.{RoadArc}
use Rattle.ride_model.specs.inner.Road.{weight_of}

-- a way from x to y over arcs of a kind: the first arc leaves x, each the node that the one before it leads to, and the
-- last leads to y
abbrev pub IsWay : (RoadArc → Type 0) → ℕ → ℕ → List RoadArc → Type 0
IsWay Kind x y [] = x ≡ y
IsWay Kind x y (arc ∷ way) = Kind arc × (arc.tail ≡ x) × IsWay Kind arc.head y way

-- some way from x to y weighs no more than the limit
pub record Reaches (Kind : RoadArc → Type 0) (x y limit : ℕ) : Type 0 where
  pub way : List RoadArc
  pub walked : IsWay Kind x y way
  pub lighter : weight_of way ≤ limit
