use Rattle.std.proofs.Common.{◌≡◌}
use Rattle.plan_trials.proofs.roads.times.expect_many.Given as goal

abbrev pub invariant-loop-turn : goal.invariant-loop-turn
invariant-loop-turn g l = l.times ≡ l.fn.times
