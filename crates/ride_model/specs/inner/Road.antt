-- What only lemmas and lower contracts use beside Road.antt.
use Rattle.std.specs.Prelude.{◌≡◌, ℕ, ◌≤◌, List, [], ◌∷◌, map, Contains, sum_by, Option, Some, None}
use Rattle.ride_model.specs.declared.network.RoadArc.{RoadArc}
use Rattle.ride_model.specs.Road.{RoadMap}

-- a walk from x to y: arcs of the map, the first from x, each from where the one before it ends, the last to y;
-- the empty list is a walk from x to x
abbrev pub IsWalk : RoadMap → ℕ → ℕ → List RoadArc → Type 0
IsWalk map x y [] = x ≡ y
IsWalk map x y (arc ∷ walk) = Contains map.arcs arc × (arc.tail ≡ x) × IsWalk map arc.head y walk

-- the weight of a walk: the sum of its seconds
abbrev pub weight_of : List RoadArc → ℕ
weight_of walk = sum_by (λ (arc : RoadArc). arc.seconds) walk

-- some walk has this weight, and none has less
pub record IsLeastWeight (map : RoadMap) (x y weight : ℕ) : Type 0 where
  pub walked : (walk : List RoadArc) × IsWalk map x y walk × (weight_of walk ≡ weight)
  pub least : (walk : List RoadArc) → IsWalk map x y walk → weight ≤ weight_of walk

-- the travel time from x to y: the least weight of a walk, absent where there is no walk
abbrev pub IsTravel : RoadMap → ℕ → ℕ → Option ℕ → Type 0
IsTravel map x y None = (walk : List RoadArc) → IsWalk map x y walk → ⊥
IsTravel map x y (Some weight) = IsLeastWeight map x y weight
