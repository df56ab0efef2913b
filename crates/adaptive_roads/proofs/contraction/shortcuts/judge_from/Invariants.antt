use Rattle.adaptive_roads.proofs.Common.{IsRoomy}
use Rattle.adaptive_roads.proofs.contraction.shortcuts.judge_from.Given as goal

abbrev pub invariant-loop-onward : goal.invariant-loop-onward
invariant-loop-onward l = IsRoomy l.graph.nodes l.witness
