use Rattle.insertion.proofs.Common.{◌≡◌, ◌+◌, ◌≤◌, false, length, get_or, refl, sym, ◌∙◌, ap, subst, arith, All, Some, Offer, lesser, start_of, offer_of, length-times, times-soon, Plan, pickup_at, is_by, cost_if_any, least_with_pickup}
use Rattle.insertion.proofs.LeastOffers.{least-on, least-over, lesser-none, if-offered, one-of}
use Rattle.insertion.proofs.NoOffers.{pickup-short, late-pickup, no-least}
use Rattle.insertion.proofs.NoRoom.{length-rooms, no-least-behind}
use Rattle.insertion.proofs.PlanTimes.{start-le}
use Rattle.insertion.proofs.best.best_with_pickup_at.Goals as goal

pub pickup_at-pickup-requires-clause-within_plan : goal.pickup_at-pickup-requires-clause-within_plan
pickup_at-pickup-requires-clause-within_plan c =
    let (roads, asked) = c.requires.asked in
    let v = c.args.vehicle.now in
    omega (
      arith,
      c.requires.within,
      ap (λ (p : Plan). length p.times.items) c.requires.plan,
      length-times c.args.settings.now.dwell (start_of v c.args.settings.now.lead c.args.plan.now.time) v.stops.items,
    )

pub pickup_at-pickup-requires-clause-soon : goal.pickup_at-pickup-requires-clause-soon
pickup_at-pickup-requires-clause-soon c =
    let (roads, asked) = c.requires.asked in
    let v = c.args.vehicle.now in
    let begins = start-le v c.args.settings.now.lead c.args.plan.now.time asked.lawful.routed.ready_limit asked.settings_fit.lead_limit asked.time_limit in
    subst (λ (p : Plan). All (λ time. time ≤ 10000000000000000) p.times.items) (sym c.requires.plan)
    (times-soon v _ c.args.settings.now.dwell (roads, asked.map_fits, asked.lawful.routed) begins asked.settings_fit.dwell_limit (omega (arith, c.requires.room)))

pub pickup_at-pickup-requires-clause-short : goal.pickup_at-pickup-requires-clause-short
pickup_at-pickup-requires-clause-short c =
    let (roads, asked) = c.requires.asked in
    pickup-short roads c.args.vehicle.now c.args.ride.now c.args.near.now c.args.i asked.map_fits asked.near_holds

pub returns-then-not-is_by-clause-cost : goal.returns-then-not-is_by-clause-cost
returns-then-not-is_by-clause-cost c = λ roads asked.
    let late = ap (λ (p : Plan). is_by c.args.ride.now.latest (pickup_at c.args.near.now c.args.settings.now.dwell p c.args.i)) (sym c.requires.plan)
    ∙ ap (is_by c.args.ride.now.latest) (sym c.pickup_at-pickup.ensures) ∙ sym c.is_by.ensures ∙ c.if-not-is_by.true in
    sym (lesser-none (cost_if_any c.args.other))
    ∙ ap (lesser (cost_if_any c.args.other)) (no-least roads c.args.settings.now c.args.vehicle.now c.args.ride.now c.args.plan.now.time c.args.i c.args.i
    (λ k. late-pickup roads c.args.settings.now c.args.vehicle.now c.args.ride.now c.args.near.now c.args.plan.now.time c.args.i k asked late))

pub bounds-rooms-j : goal.bounds-rooms-j
bounds-rooms-j c =
    omega (
      arith,
      ap length c.requires.rooms,
      length-rooms c.args.vehicle.now c.args.ride.now,
      c.loop-j-test.true,
      c.number_of_stops.ensures.number,
    )

pub returns-then-not-rooms-j-clause-cost : goal.returns-then-not-rooms-j-clause-cost
returns-then-not-rooms-j-clause-cost c = λ roads asked.
    let v = c.args.vehicle.now in
    sym (lesser-none (cost_if_any c.loop-j.best))
    ∙ ap (lesser (cost_if_any c.loop-j.best))
    (no-least-behind roads c.args.settings.now v c.args.ride.now c.args.near.now c.args.plan.now.time c.args.i c.loop-j.j asked c.loop-j.auto.j
    (omega (arith, c.loop-j-test.true, c.number_of_stops.ensures.number)) false
    (ap (λ rooms. get_or rooms c.loop-j.j false) (sym c.requires.rooms) ∙ c.if-not-rooms-j.true))
    ∙ c.loop-j.invariant.cost roads asked

pub loop-j-preserved : goal.loop-j-preserved
loop-j-preserved c = record {
  end_is = omega (arith, c.number_of_stops.ensures.number);
  cost = λ roads asked.
      let rest = least_with_pickup roads c.args.settings.now c.args.vehicle.now c.args.ride.now c.args.plan.now.time c.args.i (c.loop-j.j + 1) in
      ap (λ o. lesser o rest)
      (c.better-best.ensures.cost roads (offer_of roads c.args.settings.now c.args.vehicle.now c.args.ride.now c.args.plan.now.time c.args.i c.loop-j.j)
      (c.drawn_at-drawn.ensures roads c.args.ride.now asked))
      ∙ least-on (λ k. cost_if_any (offer_of roads c.args.settings.now c.args.vehicle.now c.args.ride.now c.args.plan.now.time c.args.i k))
      (length c.args.vehicle.now.stops.items) c.loop-j.j (cost_if_any c.loop-j.best)
      (omega (arith, c.loop-j-test.true, c.number_of_stops.ensures.number))
      ∙ c.loop-j.invariant.cost roads asked;
  an_offer = λ roads asked others.
      let offer = offer_of roads c.args.settings.now c.args.vehicle.now c.args.ride.now c.args.plan.now.time c.args.i c.loop-j.j in
      one-of (λ (offer : Offer). offer_of roads c.args.settings.now c.args.vehicle.now c.args.ride.now c.args.plan.now.time offer.i offer.j ≡ Some offer)
      c.better-best.result c.loop-j.best offer (c.better-best.ensures.one roads offer (c.drawn_at-drawn.ensures roads c.args.ride.now asked))
      (c.loop-j.invariant.an_offer roads asked others)
      (if-offered roads c.args.settings.now c.args.vehicle.now c.args.ride.now c.args.plan.now.time c.args.i c.loop-j.j offer refl);
}

pub returns-clause-cost : goal.returns-clause-cost
returns-clause-cost c = λ roads asked.
    sym (least-over (λ k. cost_if_any (offer_of roads c.args.settings.now c.args.vehicle.now c.args.ride.now c.args.plan.now.time c.args.i k))
    (length c.args.vehicle.now.stops.items) c.loop-j.j (cost_if_any c.loop-j.best)
    (omega (arith, c.loop-j-test.false, c.number_of_stops.ensures.number)))
    ∙ c.loop-j.invariant.cost roads asked
