-- The sweep over flat arrays.
use Rattle.std.specs.Prelude.{◌≡◌, ℕ, ◌+◌, ◌≤◌, ◌⊎◌, List, Option, Some, None}
use Rattle.adaptive_roads.specs.declared.road_hierarchy.selected.Step.{Step}
use Rattle.adaptive_roads.specs.inner.road_hierarchy.Parts.{IsIn}
use Rattle.adaptive_roads.specs.inner.road_hierarchy.Marks.{node_at}
use Rattle.adaptive_roads.specs.inner.road_hierarchy.Selection.{step_at}

-- a label above all travel times, which stands for no way
abbrev pub never : ℕ
never = 1000000000000000

-- the label that stands for a time
abbrev pub label_for : Option ℕ → ℕ
label_for None = never
label_for (Some time) = time

-- the label of the climb to the node at a place, by its level
abbrev pub climb_to : List ℕ → List ℕ → ℕ → ℕ
climb_to ranks climbs place = node_at climbs (node_at ranks place)

-- the weight of a way that ends with a step
abbrev pub through : List Step → List ℕ → ℕ → ℕ
through steps times k = node_at times (step_at steps k).place + (step_at steps k).seconds

-- the label of a place is the least of its climb and of the ways that end with a step to it
pub record IsSwept (starts : List ℕ) (steps : List Step) (climb : ℕ → ℕ) (times : List ℕ) (place : ℕ) : Type 0 where
  pub climbed : node_at times place ≤ climb place
  pub stepped : (k : ℕ) → IsIn starts place k → node_at times place ≤ through steps times k
  pub attained : (node_at times place ≡ climb place)
      ⊎ ((k : ℕ) × IsIn starts place k × (node_at times place ≡ through steps times k))
