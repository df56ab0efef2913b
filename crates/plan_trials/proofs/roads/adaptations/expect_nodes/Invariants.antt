use Rattle.std.proofs.Common.{◌≡◌}
use Rattle.plan_trials.proofs.roads.adaptations.expect_nodes.Given as goal

abbrev pub invariant-loop-place : goal.invariant-loop-place
invariant-loop-place g l = l.scratch ≡ l.initial.scratch
