use Rattle.adaptive_roads.proofs.Common.{◌≡◌, length, take, IsGraph}
use Rattle.adaptive_roads.proofs.contraction.start.add_arcs.Given as goal

abbrev pub invariant-loop-arc : goal.invariant-loop-arc
invariant-loop-arc l = record {
  graph : IsGraph l.graph;
  nodes : l.graph.nodes ≡ l.map.nodes;
  arcs : l.graph.arcs.items ≡ take l.arc-index l.map.arcs;
  order : l.graph.order.items ≡ l.initial.graph.order.items;
  count : length l.graph.arcs.items ≡ l.arc-index;
}
