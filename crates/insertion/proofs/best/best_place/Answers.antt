use Rattle.insertion.proofs.Common.{◌≡◌, ◌+◌, length, sym, ◌∙◌, ap, subst, arith, IfSome, Some, Offer, RoadMap, lesser, offer_of, Plan, IsAsked, cost_if_any, least_with_pickup, least_from}
use Rattle.insertion.proofs.LeastOffers.{least-on, least-over, price-least}
use Rattle.insertion.proofs.NoOffers.{not-open, full, no-price}
use Rattle.insertion.proofs.best.best_place.Goals as goal

pub returns-then-not-is_open-clause-price : goal.returns-then-not-is_open-clause-price
returns-then-not-is_open-clause-price c = λ roads asked.
    no-price roads c.args.settings.now c.args.vehicle.now c.args.ride.now c.args.now
    (λ i j. not-open roads c.args.settings.now c.args.vehicle.now c.args.ride.now c.args.now i j (sym c.is_open.ensures ∙ c.if-not-is_open.true))

pub returns-then-number_of_stops-gt14-clause-price : goal.returns-then-number_of_stops-gt14-clause-price
returns-then-number_of_stops-gt14-clause-price c = λ roads asked.
    no-price roads c.args.settings.now c.args.vehicle.now c.args.ride.now c.args.now
    (λ i j. full roads c.args.settings.now c.args.vehicle.now c.args.ride.now c.args.now i j (omega (arith, c.number_of_stops.ensures.number)))

pub loop-i-preserved : goal.loop-i-preserved
loop-i-preserved c = record {
  end_is = omega (arith, c.number_of_stops-2.ensures.number);
  cost = λ roads asked.
      let rest = least_from roads c.args.settings.now c.args.vehicle.now c.args.ride.now c.args.now (c.loop-i.i + 1) in
      ap (λ o. lesser o rest)
      (subst (λ time. (r : RoadMap) → IsAsked r c.args.vehicle.now c.args.ride.now time c.args.settings.now c.args.near.now
      → cost_if_any c.best_with_pickup_at-best.result
      ≡ lesser (cost_if_any c.loop-i.best) (least_with_pickup r c.args.settings.now c.args.vehicle.now c.args.ride.now time c.loop-i.i c.loop-i.i))
      (ap (λ (p : Plan). p.time) c.plan_of-plan.ensures) c.best_with_pickup_at-best.ensures.cost roads asked)
      ∙ least-on (λ k. least_with_pickup roads c.args.settings.now c.args.vehicle.now c.args.ride.now c.args.now k k)
      (length c.args.vehicle.now.stops.items) c.loop-i.i (cost_if_any c.loop-i.best)
      (omega (arith, c.loop-i-test.true, c.number_of_stops-2.ensures.number))
      ∙ c.loop-i.invariant.cost roads asked;
  an_offer = λ roads asked.
      subst (λ time. (r : RoadMap) → IsAsked r c.args.vehicle.now c.args.ride.now time c.args.settings.now c.args.near.now
      → IfSome c.loop-i.best (λ (offer : Offer). offer_of r c.args.settings.now c.args.vehicle.now c.args.ride.now time offer.i offer.j ≡ Some offer)
      → IfSome c.best_with_pickup_at-best.result
      (λ (offer : Offer). offer_of r c.args.settings.now c.args.vehicle.now c.args.ride.now time offer.i offer.j ≡ Some offer))
      (ap (λ (p : Plan). p.time) c.plan_of-plan.ensures) c.best_with_pickup_at-best.ensures.an_offer roads asked
      (c.loop-i.invariant.an_offer roads asked);
}

pub returns-clause-price : goal.returns-clause-price
returns-clause-price c = λ roads asked.
    sym (least-over (λ k. least_with_pickup roads c.args.settings.now c.args.vehicle.now c.args.ride.now c.args.now k k)
    (length c.args.vehicle.now.stops.items) c.loop-i.i (cost_if_any c.loop-i.best) (omega (arith, c.loop-i-test.false, c.number_of_stops.ensures.number)))
    ∙ c.loop-i.invariant.cost roads asked
    ∙ price-least roads c.args.settings.now c.args.vehicle.now c.args.ride.now c.args.now
