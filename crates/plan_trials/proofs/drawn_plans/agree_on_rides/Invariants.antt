use Rattle.std.proofs.Common.{◌<◌, ◌+◌}
use Rattle.std.specs.Prelude.{All}
use Rattle.ride_model.specs.declared.vehicle.Ride.{Ride}
use Rattle.ride_model.specs.Vehicle.{IsLawful}
use Rattle.plan_trials.specs.SmallPlans.{four_nodes}
use Rattle.plan_trials.proofs.drawn_plans.agree_on_rides.Given as goal

-- the vehicle is lawful, and its rides were drawn before
abbrev pub invariant-loop-number : goal.invariant-loop-number
invariant-loop-number l =
    IsLawful four_nodes l.vehicle × All (λ (ride : Ride). ride.id < 100 + l.number) l.vehicle.rides.items
