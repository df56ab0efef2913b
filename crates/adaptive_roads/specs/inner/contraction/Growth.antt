-- A graph grows by shortcuts, so that a node may be contracted.
use Rattle.std.specs.Prelude.{◌≡◌, ◌≢◌, ℕ, ◌+◌, ◌⊎◌, length, Contains}
use Rattle.ride_model.specs.declared.network.RoadArc.{RoadArc}
use Rattle.ride_model.specs.Road.{RoadMap}
use Rattle.adaptive_roads.specs.inner.hierarchy_laws.Ways.{Reaches}
use Rattle.adaptive_roads.specs.inner.hierarchy_laws.Hierarchy.{IsHierarchyOf}
use Rattle.adaptive_roads.specs.declared.contraction.graph.Neighbor.{Neighbor}
use Rattle.adaptive_roads.specs.declared.contraction.graph.Graph.{Graph}
use Rattle.adaptive_roads.specs.inner.contraction.Levels.{level_in}
use Rattle.adaptive_roads.specs.inner.contraction.Witness.{ReachesPast}

-- the arcs and levels of a graph are a hierarchy of a map
abbrev pub IsHierarchyGraph : RoadMap → Graph → Type 0
IsHierarchyGraph roads graph =
    IsHierarchyOf roads graph.arcs.items (level_in graph.levels.items) (length graph.order.items)

-- an arc of the core past a node that weighs what a way weighs
pub record IsShortcut (graph : Graph) (node : ℕ) (arc : RoadArc) : Type 0 where
  pub way : Reaches (Contains graph.arcs.items) arc.tail arc.head arc.seconds
  pub tail_live : level_in graph.levels.items arc.tail ≡ 4294967295
  pub head_live : level_in graph.levels.items arc.head ≡ 4294967295
  pub tail_apart : arc.tail ≢ node
  pub head_apart : arc.head ≢ node

-- the graph has shortcuts more
pub record HasShortcuts (node : ℕ) (old new : Graph) : Type 0 where
  pub nodes : new.nodes ≡ old.nodes
  pub levels : new.levels.items ≡ old.levels.items
  pub order : new.order.items ≡ old.order.items
  pub kept : (arc : RoadArc) → Contains old.arcs.items arc → Contains new.arcs.items arc
  pub added : (arc : RoadArc) → Contains new.arcs.items arc → Contains old.arcs.items arc ⊎ IsShortcut old node arc

-- a neighbor in the core of which an arc leads to a node, and one to which an arc of the node leads
pub record IsIncoming (graph : Graph) (node : ℕ) (neighbor : Neighbor) : Type 0 where
  pub linked : Contains graph.arcs.items (record { tail = neighbor.node; head = node; seconds = neighbor.seconds })
  pub live : level_in graph.levels.items neighbor.node ≡ 4294967295
  pub apart : neighbor.node ≢ node

pub record IsOutgoing (graph : Graph) (node : ℕ) (neighbor : Neighbor) : Type 0 where
  pub linked : Contains graph.arcs.items (record { tail = node; head = neighbor.node; seconds = neighbor.seconds })
  pub live : level_in graph.levels.items neighbor.node ≡ 4294967295
  pub apart : neighbor.node ≢ node

-- what goes from a neighbor over a node to another has a way past it that weighs no more
abbrev pub IsCovered : Graph → ℕ → Neighbor → Neighbor → Type 0
IsCovered graph node into onward = into.node ≢ onward.node
    → ReachesPast graph.arcs.items graph.levels.items (length graph.order.items) node into.node onward.node (into.seconds + onward.seconds)
