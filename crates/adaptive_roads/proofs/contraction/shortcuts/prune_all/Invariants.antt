use Rattle.adaptive_roads.proofs.Common.{IsGraph, IsSameGraph}
use Rattle.adaptive_roads.proofs.contraction.shortcuts.prune_all.Given as goal

abbrev pub invariant-loop-neighbor : goal.invariant-loop-neighbor
invariant-loop-neighbor l = record {
  graph : IsGraph l.graph;
  same : IsSameGraph l.initial.graph l.graph;
}
