use Rattle.stop_plans.proofs.Common.{◌≡◌, ◌++◌, take, drop, rides_with_picked}
use Rattle.stop_plans.proofs.serve.mark_picked.Given as goal

-- those so far are marked, the others are as they were
abbrev pub invariant-loop-ride : goal.invariant-loop-ride
invariant-loop-ride l = l.rides ≡ rides_with_picked l.id l.time (take l.ride-index l.initial.rides) ++ drop l.ride-index l.initial.rides
