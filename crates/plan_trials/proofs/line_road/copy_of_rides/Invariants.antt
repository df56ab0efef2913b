use Rattle.std.proofs.Common.{◌≡◌, take}
use Rattle.plan_trials.proofs.line_road.copy_of_rides.Given as goal

-- those so far are copied
abbrev pub invariant-loop-ride : goal.invariant-loop-ride
invariant-loop-ride l = l.copy.items ≡ take l.ride-index l.rides
