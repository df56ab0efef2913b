use Rattle.std.proofs.Common.{◌≡◌}
use Rattle.plan_trials.proofs.roads.adaptations.expect_around.Given as goal

abbrev pub invariant-loop-node : goal.invariant-loop-node
invariant-loop-node g l = l.times ≡ l.fn.times
