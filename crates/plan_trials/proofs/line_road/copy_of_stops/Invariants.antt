use Rattle.std.proofs.Common.{◌≡◌, take}
use Rattle.plan_trials.proofs.line_road.copy_of_stops.Given as goal

-- those so far are copied
abbrev pub invariant-loop-stop : goal.invariant-loop-stop
invariant-loop-stop l = l.copy.items ≡ take l.stop-index l.stops
