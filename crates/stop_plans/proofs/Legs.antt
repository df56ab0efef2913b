-- The legs of a vehicle in order.
use Rattle.stop_plans.proofs.Common.{ℕ, ◌≤◌, List, [], ◌∷◌, All, AllByRecursion, All-from_recursion, Stop, Vehicle, RoadMap, IsRoadMap, HasLegs, IsRoutedSomewhere}
use Rattle.model_laws.proofs.TravelTimes.{travel-le}

each_leg : (roads : RoadMap) (at : ℕ) (stops : List Stop) → IsRoadMap roads → HasLegs roads at stops
    → AllByRecursion (λ (s : Stop). s.leg ≤ 500000000000000) stops
each_leg roads at [] fits h = tt
each_leg roads at (s ∷ stops) fits (leg, rest) = (travel-le roads at s.node s.leg fits leg, each_leg roads s.node stops fits rest)

-- each leg is at most 5 x 10^14 seconds
pub legs_are_bounded : (v : Vehicle) → IsRoutedSomewhere v → All (λ (s : Stop). s.leg ≤ 500000000000000) v.stops.items
legs_are_bounded v (roads, fits, r) = All-from_recursion _ v.stops.items (each_leg roads v.at v.stops.items fits r.legs)
