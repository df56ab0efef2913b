-- The arcs that lead down to each contracted node.
use Rattle.std.specs.Prelude.{◌≡◌, ℕ, ◌<◌, nat_lt, if◌then◌else◌, List, length, slice_index_or}
use Rattle.ride_model.specs.declared.network.RoadArc.{RoadArc}
use Rattle.road_times.specs.declared.side.Side.{Side}
use Rattle.road_times.specs.inner.Turned.{turned_arc}
use Rattle.road_times.specs.inner.Sorting.{no_arc}
use Rattle.adaptive_roads.specs.inner.hierarchy_laws.Hierarchy.{IsFalling}
use Rattle.adaptive_roads.specs.inner.contraction.Levels.{level_in}
use Rattle.adaptive_roads.specs.inner.contraction.Graph.{arc_at}
use Rattle.adaptive_roads.specs.declared.road_hierarchy.descents.Upper.{Upper}
use Rattle.adaptive_roads.specs.inner.road_hierarchy.Parts.{IsIn, AreParts}
use Rattle.adaptive_roads.specs.inner.road_hierarchy.Tallies.{place_of}

-- the upper end of an arc that leads down
abbrev pub upper_of : RoadArc → Upper
upper_of arc = record { node = arc.tail; seconds = arc.seconds }

abbrev pub no_upper : Upper
no_upper = record { node = 0; seconds = 0 }

abbrev pub upper_at : List Upper → ℕ → Upper
upper_at uppers place = slice_index_or uppers place no_upper

-- the level of the node to which an arc leads down, or the core where it does not
abbrev pub lower_level : Side → List ℕ → ℕ → RoadArc → ℕ
lower_level side levels core arc =
    let met = turned_arc side arc in
    if nat_lt (level_in levels met.head) (level_in levels met.tail) then level_in levels met.head else core

-- the same of the arc at a place
abbrev pub lower_at : Side → List RoadArc → List ℕ → ℕ → ℕ → ℕ
lower_at side arcs levels core place = lower_level side levels core (slice_index_or arcs place no_arc)

-- the upper ends of the first so many arcs that lead down stand at their places
abbrev pub ArePlaced : Side → List RoadArc → List ℕ → ℕ → List ℕ → List Upper → ℕ → Type 0
ArePlaced side arcs levels core starts uppers count = (k : ℕ) → k < count → lower_at side arcs levels core k < core
    → upper_at uppers (place_of (lower_at side arcs levels core) starts k) ≡ upper_of (arc_at side arcs k)

-- an upper end is that of an arc that leads down to the node of a level
pub record IsUpperOf (Link : RoadArc → Type 0) (levels : List ℕ) (level : ℕ) (upper : Upper) : Type 0 where
  pub arc : RoadArc
  pub falls : IsFalling Link (level_in levels) arc
  pub its_level : level_in levels arc.head ≡ level
  pub is : upper_of arc ≡ upper

-- the upper ends of the arcs that lead down to the nodes of the lowest levels, each level's in a part of their own
pub record AreDescents (Link : RoadArc → Type 0) (levels : List ℕ) (core : ℕ) (starts : List ℕ) (uppers : List Upper) : Type 0 where
  pub parts : AreParts core starts (length uppers)
  pub sound : (level place : ℕ) → level < core → IsIn starts level place → IsUpperOf Link levels level (upper_at uppers place)
  pub complete : (arc : RoadArc) → IsFalling Link (level_in levels) arc → level_in levels arc.head < core
      → (place : ℕ) × IsIn starts (level_in levels arc.head) place × (upper_at uppers place ≡ upper_of arc)
