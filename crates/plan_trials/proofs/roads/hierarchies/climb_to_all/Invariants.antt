use Rattle.std.proofs.Common.{◌≡◌}
use Rattle.plan_trials.proofs.roads.hierarchies.climb_to_all.Given as goal

abbrev pub invariant-loop-place : goal.invariant-loop-place
invariant-loop-place l = l.room ≡ l.fn.room
