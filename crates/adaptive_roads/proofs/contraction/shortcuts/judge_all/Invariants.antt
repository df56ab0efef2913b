use Rattle.adaptive_roads.proofs.Common.{IsRoomy}
use Rattle.adaptive_roads.proofs.contraction.shortcuts.judge_all.Given as goal

abbrev pub invariant-loop-into : goal.invariant-loop-into
invariant-loop-into l = IsRoomy l.graph.nodes l.witness
