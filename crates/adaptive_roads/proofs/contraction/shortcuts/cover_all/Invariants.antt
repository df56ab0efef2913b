use Rattle.adaptive_roads.proofs.Common.{◌≡◌, ℕ, ◌<◌, get_or, Contains, Neighbor, IsGraph, IsRoomy, HasShortcuts, IsCovered}
use Rattle.adaptive_roads.proofs.contraction.shortcuts.cover_all.Given as goal

abbrev pub invariant-loop-into : goal.invariant-loop-into
invariant-loop-into l = record {
  graph : IsGraph l.graph;
  room : IsRoomy l.graph.nodes l.witness;
  grown : HasShortcuts l.node l.initial.graph l.graph;
  covered : (place : ℕ) (into onward : Neighbor) → place < l.into-index → get_or l.ins place into ≡ into → Contains l.outs onward → IsCovered l.graph l.node into onward;
}
