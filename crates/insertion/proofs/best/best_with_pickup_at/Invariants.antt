use Rattle.insertion.proofs.Common.{◌≡◌, ◌+◌, length, IfSome, Some, Offer, RoadMap, lesser, offer_of, IsAsked, cost_if_any, least_with_pickup}
use Rattle.insertion.proofs.best.best_with_pickup_at.Given as goal

-- the best so far and the least cost of the places that are left are the least of all and the other offer
abbrev pub invariant-loop-j : goal.invariant-loop-j
invariant-loop-j l = record {
  end_is : l.j-end ≡ length l.vehicle.stops.items + 1;
  cost : (roads : RoadMap) → IsAsked roads l.vehicle l.ride l.plan.time l.settings l.near
      → lesser (cost_if_any l.best) (least_with_pickup roads l.settings l.vehicle l.ride l.plan.time l.i l.j)
      ≡ lesser (cost_if_any l.initial.best) (least_with_pickup roads l.settings l.vehicle l.ride l.plan.time l.i l.i);
  an_offer : (roads : RoadMap) → IsAsked roads l.vehicle l.ride l.plan.time l.settings l.near
      → IfSome l.initial.best (λ (offer : Offer). offer_of roads l.settings l.vehicle l.ride l.plan.time offer.i offer.j ≡ Some offer)
      → IfSome l.best (λ (offer : Offer). offer_of roads l.settings l.vehicle l.ride l.plan.time offer.i offer.j ≡ Some offer);
}
