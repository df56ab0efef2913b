use Rattle.std.proofs.Common.{◌≡◌}
use Rattle.plan_trials.proofs.roads.times.expect_times.Given as goal

abbrev pub invariant-loop-other : goal.invariant-loop-other
invariant-loop-other g l = l.times ≡ l.fn.times
