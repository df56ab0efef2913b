-- What a witness search has found: ways through the rest of the core, past a node. It need not be all of them.
use Rattle.std.specs.Prelude.{◌≡◌, ◌≢◌, ℕ, ◌+◌, ◌≤◌, List, length, Contains, slice_index_or, Some}
use Rattle.ride_model.specs.declared.network.RoadArc.{RoadArc}
use Rattle.adaptive_roads.specs.inner.hierarchy_laws.Ways.{Reaches}
use Rattle.adaptive_roads.specs.inner.hierarchy_laws.Hierarchy.{IsApart}
use Rattle.radix_queue.specs.inner.Queue.{key_of}
use Rattle.adaptive_roads.specs.declared.contraction.graph.Graph.{Graph}
use Rattle.adaptive_roads.specs.declared.contraction.witness.Reached.{Reached}
use Rattle.adaptive_roads.specs.declared.contraction.witness.Witness.{Witness}
use Rattle.adaptive_roads.specs.inner.contraction.Levels.{level_in}

-- some way over arcs of the core that do not touch a node weighs no more than the limit
abbrev pub ReachesPast : List RoadArc → List ℕ → ℕ → ℕ → ℕ → ℕ → ℕ → Type 0
ReachesPast arcs levels core avoided source node limit =
    Reaches (IsApart (Contains arcs) (level_in levels) core avoided) source node limit

-- a node of the core that was reached
pub record IsFound (graph : Graph) (avoided source node time : ℕ) : Type 0 where
  pub way : ReachesPast graph.arcs.items graph.levels.items (length graph.order.items) avoided source node time
  pub live : level_in graph.levels.items node ≡ 4294967295
  pub apart : node ≢ avoided

abbrev pub nothing_reached : Reached
nothing_reached = record { round = 0; time = 0 }

abbrev pub reached_at : Witness → ℕ → Reached
reached_at witness node = slice_index_or witness.reached.items node nothing_reached

-- a witness for graphs of so many nodes: no node was reached in a later round than this one
pub record IsRoomy (nodes : ℕ) (witness : Witness) : Type 0 where
  pub keys : length witness.queue.keys ≡ nodes + 1
  pub sized : length witness.reached.items ≡ nodes + 1
  pub rounds : (node : ℕ) → (reached_at witness node).round ≤ witness.round

-- each key, and each time of this round, is what a way weighs
pub record IsWitness (graph : Graph) (avoided source : ℕ) (witness : Witness) : Type 0 where
  pub keyed : (node key : ℕ) → key_of witness.queue node ≡ Some key → IsFound graph avoided source node key
  pub timed : (node : ℕ) → (reached_at witness node).round ≡ witness.round → IsFound graph avoided source node (reached_at witness node).time
