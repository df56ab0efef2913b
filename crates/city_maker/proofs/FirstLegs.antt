-- The leg to the first stop of a vehicle.
use Rattle.city_maker.proofs.Common.{◌≡◌, ◌<◌, ◌≤◌, List, length, get_or, sym, subst, All-get_or, All-same, Stop, Vehicle, IsRoutedSomewhere}
use Rattle.stop_plans.proofs.Legs.{legs_are_bounded}

pub first-leg-le : (v : Vehicle) (stops : List Stop) (first : Stop) → IsRoutedSomewhere v → stops ≡ v.stops.items → 0 < length stops
    → first ≡ get_or stops 0 first → first.leg ≤ 500000000000000
first-leg-le v stops first routed stops_are some is =
    subst (λ (s : Stop). s.leg ≤ 500000000000000) (sym is)
    (All-get_or (λ (s : Stop). s.leg ≤ 500000000000000) stops 0 first some
    (All-same (λ (s : Stop). s.leg ≤ 500000000000000) stops v.stops.items stops_are (legs_are_bounded v routed)))
