use Rattle.adaptive_roads.proofs.Common.{ℕ, ◌<◌, IsMarked, node_at}
use Rattle.adaptive_roads.proofs.road_hierarchy.marks.mark_wanted.Given as goal

abbrev pub invariant-loop-node : goal.invariant-loop-node
invariant-loop-node l = (place : ℕ) → place < l.node-index → IsMarked l.marks (node_at l.wanted place)
