use Rattle.stop_plans.proofs.Common.{◌∙◌, ap, map, is_some, Ride, load_aboard}
use Rattle.stop_plans.proofs.AboardLists.{load-at_start}
use Rattle.stop_plans.proofs.stop_loads.load_at_start.Goals as goal

pub returns : goal.returns
returns c =
    c.load_of.ensures
    ∙ ap (load_aboard c.as_slice-rides.result.now) (c.as_slice.ensures.value ∙ c.aboard_at_start.ensures.riders)
    ∙ ap (λ rides. load_aboard rides (map (λ (ride : Ride). is_some ride.picked) rides)) c.as_slice-rides.ensures.value
    ∙ load-at_start c.args.vehicle.now.rides.items
