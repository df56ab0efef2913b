use Rattle.adaptive_roads.proofs.Common.{◌≤◌, length, IsGraph, IsSameGraph}
use Rattle.adaptive_roads.proofs.contraction.graph.Graph.prune.Given as goal

abbrev pub invariant-chain : goal.invariant-chain
invariant-chain l = record {
  graph : IsGraph l.self;
  same : IsSameGraph l.initial.self l.self;
  within : l.cursor ≤ length l.self.arcs.items;
}
