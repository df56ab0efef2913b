-- Labels of a sweep (Delling, Goldberg, Nowatzyk, Werneck, "PHAST: hardware-accelerated shortest path trees", 2011): a
-- label below `never` is a weight, and any other stands for no way.
use Rattle.std.specs.Prelude.{◌≡◌, ℕ, ◌+◌, ◌<◌, ◌≤◌, ◌⊎◌, Option, Some, None, nat_lt, if◌then◌else◌}
use Rattle.ride_model.specs.declared.network.RoadArc.{RoadArc}
use Rattle.adaptive_roads.specs.inner.hierarchy_laws.Hierarchy.{IsFalling}

-- the label is the least of the weights that have a property, if any of them is below `never`
pub record IsLabel (never : ℕ) (Weighs : ℕ → Type 0) (label : ℕ) : Type 0 where
  pub reached : label < never → Weighs label
  pub least : (weight : ℕ) → Weighs weight → label ≤ weight

-- the time that a label stands for
abbrev pub time_of : ℕ → ℕ → Option ℕ
time_of never label = if nat_lt label never then Some label else None

-- one step of the sweep: the label of a node is the least of the weight of its climb and of the labels of the nodes
-- above it with the seconds of their arcs down to it
pub record IsGathered (never : ℕ) (Link : RoadArc → Type 0) (level : ℕ → ℕ) (labels : ℕ → ℕ) (node climb label : ℕ) : Type 0 where
  pub climbed : label ≤ climb
  pub stepped : (arc : RoadArc) → IsFalling Link level arc → arc.head ≡ node → label ≤ labels arc.tail + arc.seconds
  pub attained : label < never
      → (label ≡ climb) ⊎ ((arc : RoadArc) × IsFalling Link level arc × (arc.head ≡ node) × (label ≡ labels arc.tail + arc.seconds))
