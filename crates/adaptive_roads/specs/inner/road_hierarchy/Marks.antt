-- Marks of nodes, closed under the arcs that lead down.
use Rattle.std.specs.Prelude.{◌≡◌, ℕ, ◌<◌, List, Bool, true, false, slice_index_or}
use Rattle.ride_model.specs.declared.network.RoadArc.{RoadArc}
use Rattle.adaptive_roads.specs.inner.hierarchy_laws.Hierarchy.{IsFalling}
use Rattle.adaptive_roads.specs.declared.road_hierarchy.descents.Upper.{Upper}
use Rattle.adaptive_roads.specs.inner.road_hierarchy.Parts.{IsIn}
use Rattle.adaptive_roads.specs.inner.road_hierarchy.Descents.{upper_at}

abbrev pub IsMarked : List Bool → ℕ → Type 0
IsMarked marks node = slice_index_or marks node false ≡ true

abbrev pub node_at : List ℕ → ℕ → ℕ
node_at nodes place = slice_index_or nodes place 0

-- where one of the lowest contracted nodes is marked, the upper ends of the arcs that lead down to it are
abbrev pub AreClosedBelow : List ℕ → List Upper → List ℕ → ℕ → List Bool → Type 0
AreClosedBelow starts uppers order count marks = (level place : ℕ) → level < count → IsMarked marks (node_at order level)
    → IsIn starts level place → IsMarked marks (upper_at uppers place).node

-- an arc that leads down to a marked node leaves a marked one
abbrev pub AreClosed : (RoadArc → Type 0) → (ℕ → ℕ) → List Bool → Type 0
AreClosed Link level marks = (arc : RoadArc) → IsFalling Link level arc → IsMarked marks arc.head → IsMarked marks arc.tail
