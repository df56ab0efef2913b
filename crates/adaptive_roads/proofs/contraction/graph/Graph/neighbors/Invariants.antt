use Rattle.adaptive_roads.proofs.contraction.Collecting.{IsCollecting}
use Rattle.adaptive_roads.proofs.contraction.graph.Graph.neighbors.Given as goal

abbrev pub invariant-loop-cursor : goal.invariant-loop-cursor
invariant-loop-cursor l = IsCollecting l.side l.self.arcs.items l.self.levels.items l.node l.cursor l.list.items

abbrev pub decreases-loop-cursor : goal.decreases-loop-cursor
decreases-loop-cursor l = l.cursor
