use Rattle.stop_plans.proofs.Common.{◌<◌, length, sym, ◌∙◌, ap, subst, remove, Pickup, Dropoff, with_plan, is_visit, IsFirst, relegged}
use Rattle.stop_plans.proofs.RemovedLegs.{removal_places, removes-from, dropoff-within, pickup-within}
use Rattle.stop_plans.proofs.remove.remove_ride.Goals as goal

pub remove_stop-requires : goal.remove_stop-requires
remove_stop-requires c =
    let (roads, h) = c.requires in
    dropoff-within roads _ _ _ _ h _ _ (removal_places roads _ _ _ _ h c.place_of-pickup.result c.place_of-dropoff.result
    (subst (λ stops. IsFirst (is_visit c.args.id Pickup) stops c.place_of-pickup.result) c.as_slice.ensures.value c.place_of-pickup.ensures)
    (subst (λ stops. IsFirst (is_visit c.args.id Dropoff) stops c.place_of-dropoff.result) c.as_slice-2.ensures.value c.place_of-dropoff.ensures))

pub remove_stop-requires-2 : goal.remove_stop-requires-2
remove_stop-requires-2 c =
    let (roads, h) = c.requires in
    subst (λ stops. c.place_of-pickup.result < length stops) (sym c.remove_stop.ensures)
    (pickup-within roads _ _ _ _ h _ _ (removal_places roads _ _ _ _ h c.place_of-pickup.result c.place_of-dropoff.result
    (subst (λ stops. IsFirst (is_visit c.args.id Pickup) stops c.place_of-pickup.result) c.as_slice.ensures.value c.place_of-pickup.ensures)
    (subst (λ stops. IsFirst (is_visit c.args.id Dropoff) stops c.place_of-dropoff.result) c.as_slice-2.ensures.value c.place_of-dropoff.ensures)))

pub returns : goal.returns
returns c = λ roads h.
    (λ i. with_plan c.args.vehicle.now (c.drop_ride.ensures i)
    ((c.remove_stop-2.ensures ∙ ap (λ stops. relegged c.place_of-pickup.result c.args.first (remove stops c.place_of-pickup.result)) c.remove_stop.ensures) i))
    ∙ removes-from roads _ _ _ _ h c.place_of-pickup.result c.place_of-dropoff.result
    (removal_places roads _ _ _ _ h c.place_of-pickup.result c.place_of-dropoff.result
    (subst (λ stops. IsFirst (is_visit c.args.id Pickup) stops c.place_of-pickup.result) c.as_slice.ensures.value c.place_of-pickup.ensures)
    (subst (λ stops. IsFirst (is_visit c.args.id Dropoff) stops c.place_of-dropoff.result) c.as_slice-2.ensures.value c.place_of-dropoff.ensures))
