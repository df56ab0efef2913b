use Rattle.stop_plans.proofs.Common.{◌∙◌, ap, map, is_some, Ride, loads_behind}
use Rattle.stop_plans.proofs.AboardLists.{loads_behind-is}
use Rattle.stop_plans.proofs.stop_loads.loads.Goals as goal

pub returns : goal.returns
returns c =
    c.loads_along.ensures
    ∙ ap (λ rides. loads_behind rides (map (λ (ride : Ride). is_some ride.picked) rides) c.as_slice-2.result.now) c.as_slice.ensures.value
    ∙ ap (λ stops. loads_behind c.args.vehicle.now.rides.items (map (λ (ride : Ride). is_some ride.picked) c.args.vehicle.now.rides.items) stops) c.as_slice-2.ensures.value
    ∙ loads_behind-is c.args.vehicle.now
