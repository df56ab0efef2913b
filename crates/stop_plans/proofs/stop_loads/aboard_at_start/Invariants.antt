use Rattle.stop_plans.proofs.Common.{◌≡◌, take, map, is_some, Ride}
use Rattle.stop_plans.proofs.stop_loads.aboard_at_start.Given as goal

abbrev pub invariant-loop-ride : goal.invariant-loop-ride
invariant-loop-ride l = l.aboard.items ≡ map (λ (ride : Ride). is_some ride.picked) (take l.ride-index l.rides)
