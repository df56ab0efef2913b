use Rattle.insertion.proofs.Common.{◌≡◌, ◌+◌, length, IfSome, Some, Offer, RoadMap, lesser, offer_of, IsAsked, cost_if_any, least_from}
use Rattle.insertion.proofs.best.best_place.Given as goal

-- the best so far and the least cost of the places that are left are the least of all
abbrev pub invariant-loop-i : goal.invariant-loop-i
invariant-loop-i l = record {
  end_is : l.i-end ≡ length l.vehicle.stops.items + 1;
  cost : (roads : RoadMap) → IsAsked roads l.vehicle l.ride l.now l.settings l.near
      → lesser (cost_if_any l.best) (least_from roads l.settings l.vehicle l.ride l.now l.i)
      ≡ least_from roads l.settings l.vehicle l.ride l.now 0;
  an_offer : (roads : RoadMap) → IsAsked roads l.vehicle l.ride l.now l.settings l.near
      → IfSome l.best (λ (offer : Offer). offer_of roads l.settings l.vehicle l.ride l.now offer.i offer.j ≡ Some offer);
}
