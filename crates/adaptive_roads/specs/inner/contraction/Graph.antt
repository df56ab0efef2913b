-- A graph of arcs that grows while its nodes are contracted.
use Rattle.std.specs.Prelude.{◌≡◌, ◌≢◌, ℕ, ◌+◌, ◌^◌, ◌<◌, ◌≤◌, List, [], ◌∷◌, ◌++◌, length, slice_index_or}
use Rattle.ride_model.specs.declared.network.RoadArc.{RoadArc}
use Rattle.ride_model.specs.declared.limits.TheConstants.{LONGEST_ARC}
use Rattle.road_times.specs.declared.side.Side.{Side}
use Rattle.road_times.specs.declared.side.Side.TheVariants.{Out, Back}
use Rattle.road_times.specs.inner.Turned.{turned_arc}
use Rattle.road_times.specs.inner.Sorting.{no_arc}
use Rattle.adaptive_roads.specs.declared.contraction.graph.Chain.{Chain}
use Rattle.adaptive_roads.specs.declared.contraction.graph.Neighbor.{Neighbor}
use Rattle.adaptive_roads.specs.declared.contraction.graph.Graph.{Graph}
use Rattle.adaptive_roads.specs.inner.contraction.Chains.{IsChained}
use Rattle.adaptive_roads.specs.inner.contraction.Levels.{level_in, IsOrdered}

abbrev pub no_chain : Chain
no_chain = record { next_out = 0; next_back = 0 }

abbrev pub chain_at : List Chain → ℕ → Chain
chain_at chains place = slice_index_or chains place no_chain

-- the arc at a place as a search meets it
abbrev pub arc_at : Side → List RoadArc → ℕ → RoadArc
arc_at side arcs place = turned_arc side (slice_index_or arcs place no_arc)

abbrev pub next_of : Side → Chain → ℕ
next_of Out chain = chain.next_out
next_of Back chain = chain.next_back

abbrev pub firsts_in : Side → Graph → List ℕ
firsts_in Out graph = graph.first_out.items
firsts_in Back graph = graph.first_back.items

-- the node to which an arc leads is in the core
abbrev pub IsLive : Side → List RoadArc → List ℕ → ℕ → Type 0
IsLive side arcs levels place = level_in levels (arc_at side arcs place).head ≡ 4294967295

-- the arcs by the nodes that they leave, as a search meets them
abbrev pub AreChained : Side → List RoadArc → List Chain → List ℕ → List ℕ → Type 0
AreChained side arcs chains firsts levels =
    IsChained (length arcs) (λ place. (arc_at side arcs place).tail) (λ node. slice_index_or firsts node 0)
    (λ place. next_of side (chain_at chains place)) (IsLive side arcs levels)

-- an arc joins nodes of the map, in at most 10^9 seconds
pub record IsFit (nodes : ℕ) (arc : RoadArc) : Type 0 where
  pub some_tail : 1 ≤ arc.tail
  pub tail : arc.tail ≤ nodes
  pub some_head : 1 ≤ arc.head
  pub head : arc.head ≤ nodes
  pub seconds : arc.seconds ≤ LONGEST_ARC

-- a graph of arcs in order
pub record IsGraphOf (nodes : ℕ) (arcs : List RoadArc) (chains : List Chain) (first_out first_back levels order : List ℕ) : Type 0 where
  pub small : nodes < 2 ^ 31
  pub outs : length first_out ≡ nodes + 1
  pub backs : length first_back ≡ nodes + 1
  pub sized : length levels ≡ nodes + 1
  pub paired : length chains ≡ length arcs
  pub few : length arcs ≤ 5000000
  pub fit : (place : ℕ) → place < length arcs → IsFit nodes (slice_index_or arcs place no_arc)
  pub chained_out : AreChained Out arcs chains first_out levels
  pub chained_back : AreChained Back arcs chains first_back levels
  pub ordered : IsOrdered nodes levels order

abbrev pub IsGraph : Graph → Type 0
IsGraph graph =
    IsGraphOf graph.nodes graph.arcs.items graph.chains.items graph.first_out.items graph.first_back.items graph.levels.items graph.order.items

-- the same arcs, levels and order
pub record IsSameGraph (old new : Graph) : Type 0 where
  pub nodes : new.nodes ≡ old.nodes
  pub arcs : new.arcs.items ≡ old.arcs.items
  pub levels : new.levels.items ≡ old.levels.items
  pub order : new.order.items ≡ old.order.items

-- one more arc
pub record HasPushed (old new : Graph) (arc : RoadArc) : Type 0 where
  pub nodes : new.nodes ≡ old.nodes
  pub arcs : new.arcs.items ≡ old.arcs.items ++ arc ∷ []
  pub levels : new.levels.items ≡ old.levels.items
  pub order : new.order.items ≡ old.order.items

-- the neighbor to which an arc leads
abbrev pub neighbor_of : RoadArc → Neighbor
neighbor_of arc = record { node = arc.head; seconds = arc.seconds }

-- an arc from a node to another one of the core
pub record IsOnward (side : Side) (arcs : List RoadArc) (levels : List ℕ) (node place : ℕ) : Type 0 where
  pub there : place < length arcs
  pub tail : (arc_at side arcs place).tail ≡ node
  pub live : IsLive side arcs levels place
  pub apart : (arc_at side arcs place).head ≢ node

-- a neighbor in the core of a node, by an arc
abbrev pub IsNeighbor : Side → Graph → ℕ → Neighbor → Type 0
IsNeighbor side graph node neighbor =
    (place : ℕ) × IsOnward side graph.arcs.items graph.levels.items node place × (neighbor_of (arc_at side graph.arcs.items place) ≡ neighbor)

-- the node has the next level and stands in the order, and the others stay
pub record IsTakenOut (old new : Graph) (node : ℕ) : Type 0 where
  pub nodes : new.nodes ≡ old.nodes
  pub arcs : new.arcs.items ≡ old.arcs.items
  pub order : new.order.items ≡ old.order.items ++ node ∷ []
  pub its_level : level_in new.levels.items node ≡ length old.order.items
  pub others : (x : ℕ) → x ≢ node → level_in new.levels.items x ≡ level_in old.levels.items x

-- a chain with another next one on a side
abbrev pub relinked : Side → Chain → ℕ → Chain
relinked Out chain next = record { next_out = next; next_back = chain.next_back }
relinked Back chain next = record { next_out = chain.next_out; next_back = next }
