use Rattle.std.proofs.Common.{◌≡◌, take}
use Rattle.std.specs.Prelude.{map}
use Rattle.plan_trials.specs.NearInLine.{near_stop_in_line}
use Rattle.plan_trials.proofs.line_road.near_stops.Given as goal

-- the times near those so far
abbrev pub invariant-loop-stop : goal.invariant-loop-stop
invariant-loop-stop l = l.near.items ≡ map (near_stop_in_line l.ride) (take l.stop-index l.stops)
