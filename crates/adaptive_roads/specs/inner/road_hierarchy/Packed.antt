-- A contraction packed for climbs and sweeps.
use Rattle.std.specs.Prelude.{true, ◌≡◌, ◌≢◌, ℕ, ◌+◌, ◌<◌, ◌≤◌, ◌↔◌, List, ◌++◌, length, map, flat_map, Contains, slice_range}
use Rattle.ride_model.specs.declared.network.RoadArc.{RoadArc}
use Rattle.road_times.specs.declared.side.Side.{Side}
use Rattle.road_times.specs.declared.side.Side.TheVariants.{Out, Back}
use Rattle.road_times.specs.inner.Turned.{turned_arc}
use Rattle.adaptive_roads.specs.inner.contraction.Levels.{level_in}
use Rattle.adaptive_roads.specs.declared.contraction.Levelled.{Levelled}
use Rattle.adaptive_roads.specs.inner.contraction.Contracted.{Contracted, IsFitContraction}
use Rattle.adaptive_roads.specs.declared.road_hierarchy.descents.Upper.{Upper}
use Rattle.adaptive_roads.specs.declared.road_hierarchy.descents.Descents.{Descents}
use Rattle.adaptive_roads.specs.inner.road_hierarchy.Links.{IsLinkBy}
use Rattle.adaptive_roads.specs.inner.road_hierarchy.Parts.{start_at}
use Rattle.adaptive_roads.specs.inner.road_hierarchy.Descents.{AreDescents}

-- the arc between a node and an upper end, which leads down as a search on a side meets it
abbrev pub arc_below : Side → ℕ → Upper → RoadArc
arc_below side node upper = turned_arc side (record { tail = upper.node; head = node; seconds = upper.seconds })

-- the upper ends of a level
abbrev pub uppers_at : List ℕ → List Upper → ℕ → List Upper
uppers_at starts uppers level = slice_range uppers (start_at starts level) (start_at starts (level + 1))

-- the arcs between contracted nodes and the upper ends of their levels
abbrev pub arcs_below : Side → List ℕ → List ℕ → Descents → List RoadArc
arcs_below side levels order descents =
    flat_map (λ node. map (arc_below side node) (uppers_at descents.starts.items descents.uppers.items (level_in levels node))) order

-- the hierarchy of all nodes with these arcs
abbrev pub hierarchy_of : List ℕ → List ℕ → Descents → Descents → Contracted
hierarchy_of levels order descents ascents = record {
  nodes = length order;
  arcs = arcs_below Out levels order descents ++ arcs_below Back levels order ascents;
  levels = levels;
  order = order;
  is_spent = true;
}

-- what a contraction has left, as contracts see it
abbrev pub levelled : Levelled → Contracted
levelled made = record { nodes = made.nodes; arcs = made.arcs.items; levels = made.levels.items; order = made.order.items; is_spent = true }

-- each node is contracted
abbrev pub IsWhole : Contracted → Type 0
IsWhole hierarchy = (node : ℕ) → 1 ≤ node → node ≤ hierarchy.nodes → level_in hierarchy.levels node < length hierarchy.order

pub record IsPacked (levels order : List ℕ) (descents ascents : Descents) : Type 0 where
  pub fits : IsFitContraction (hierarchy_of levels order descents ascents)
  pub whole : IsWhole (hierarchy_of levels order descents ascents)
  pub down : AreDescents (IsLinkBy Out (hierarchy_of levels order descents ascents).arcs) levels (length order) descents.starts.items descents.uppers.items
  pub up : AreDescents (IsLinkBy Back (hierarchy_of levels order descents ascents).arcs) levels (length order) ascents.starts.items ascents.uppers.items

-- the same nodes, levels and order, and the same arcs and shortcuts but for loops, in whatever order
pub record IsPackingOf (contraction hierarchy : Contracted) : Type 0 where
  pub nodes : hierarchy.nodes ≡ contraction.nodes
  pub levels : hierarchy.levels ≡ contraction.levels
  pub order : hierarchy.order ≡ contraction.order
  pub arcs : (arc : RoadArc) → Contains hierarchy.arcs arc ↔ (Contains contraction.arcs arc × (arc.tail ≢ arc.head))
