use Rattle.stop_plans.proofs.Common.{length, ◌∙◌, ap, arith, with_plan, pickup_of, dropoff_of, with_leg, with_stop}
use Rattle.stop_plans.proofs.InsertedLegs.{length-with_stop, inserts-into}
use Rattle.stop_plans.proofs.insert.insert_ride.Goals as goal

pub insert_stop-requires-2-clause-within : goal.insert_stop-requires-2-clause-within
insert_stop-requires-2-clause-within c =
    let (roads, new, h) = c.requires in
    omega (
      arith,
      h.in_order,
      h.in_range,
      ap length c.insert_stop.ensures,
      length-with_stop c.args.offer.now.j
          (with_leg c.args.offer.now.joins.to_dropoff (dropoff_of c.args.ride)) c.args.offer.now.joins.after_dropoff c.args.vehicle.now.stops.items h.in_range,
    )

pub insert_stop-requires-2-clause-room : goal.insert_stop-requires-2-clause-room
insert_stop-requires-2-clause-room c =
    let (roads, new, h) = c.requires in
    omega (
      arith,
      h.stops_room,
      ap length c.insert_stop.ensures,
      length-with_stop c.args.offer.now.j
          (with_leg c.args.offer.now.joins.to_dropoff (dropoff_of c.args.ride)) c.args.offer.now.joins.after_dropoff c.args.vehicle.now.stops.items h.in_range,
    )

pub returns : goal.returns
returns c = λ roads new h.
    (λ i. with_plan c.args.vehicle.now (c.push.ensures.items i)
    ((c.insert_stop-2.ensures ∙ ap (with_stop c.args.offer.now.i (with_leg c.args.offer.now.joins.to_pickup (pickup_of c.args.ride)) c.args.offer.now.joins.after_pickup) c.insert_stop.ensures) i))
    ∙ inserts-into roads c.args.vehicle.now c.args.ride c.args.offer.now new h
