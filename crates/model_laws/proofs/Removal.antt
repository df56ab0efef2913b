-- The removal law: a vehicle without one of its rides is lawful, no stop that is left is later, and no ride is longer.
use Rattle.model_laws.proofs.Common.{◌≡◌, ℕ, ◌+◌, ◌≤◌, Bool, true, false, not, cond, ◌&&◌, ◌||◌, List, [], ◌∷◌, eqb, leb, ltb, leb-true, le-leb, ltb-false, le-ltb, refl, sym, ◌∙◌, ap, subst, arith, Option, Some, None, unwrap_or, ◌==◌, IfSome, filter, eqb-true, eq-eqb, or_parts, or_from, and_from, and_parts, All-filter, Ride, Stop, Vehicle, RoadMap, IsRoadMap, IsRide, IsRouted, IsLawful, HasLegs, loads_fit, visits_of, is_pickup_at, is_dropoff_at, keeps_visits, keeps_ride, breaks_visits, breaks_ride, routed, with_plan, stops_without, rides_without, without_ride, AllSooner}
use Rattle.model_laws.proofs.TravelTimes.{travel-same}
use Rattle.model_laws.proofs.Routes.{routed-has_legs, of_ride, sooner-filter, visits_from, ShorterRoute, shorter_route}
use Rattle.model_laws.proofs.PlanStops.{unlegged-routed, plan-same, plan-without}
use Rattle.model_laws.proofs.AboardLoads.{fits_throughout, loads_fit-throughout, fits-without, filter-skipped}

-- the test of the rides that are left
abbrev pub is_other : ℕ → ℕ → Bool
is_other id q = not (q == id)

-- what is left of a vehicle's route
pub route_without : (roads : RoadMap) (v : Vehicle) (id start dwell : ℕ) → IsRoadMap roads → HasLegs roads v.at v.stops.items
    → ShorterRoute roads dwell 0 v.at start start (is_other id) v.stops.items
route_without roads v id start dwell fits legs =
    shorter_route roads dwell 0 v.at v.at start start 0 (is_other id) v.stops.items fits (travel-same roads v.at) (omega arith) legs

-- the vehicle without a ride, its stops those of the route that is left
pub without_ride-is : (roads : RoadMap) (v : Vehicle) (id : ℕ) (out : List Stop) → routed roads v.at (stops_without id v.stops.items) ≡ Some out
    → without_ride roads v id ≡ with_plan v (rides_without id v.rides.items) out
without_ride-is roads v id out is =
    ap (λ o. with_plan v (rides_without id v.rides.items) (unwrap_or o (stops_without id v.stops.items))) is

-- a vehicle in order stays so without a ride
pub routed-without : (roads : RoadMap) (v : Vehicle) (id : ℕ) → IsRoadMap roads → IsRouted roads v → IsRouted roads (without_ride roads v id)
routed-without roads v id fits r =
    let left = route_without roads v id 0 0 fits r.legs in
    let made : IsRouted roads (with_plan v (rides_without id v.rides.items) left.out) = record {
      some_seat = r.some_seat;
      seats_limit = r.seats_limit;
      chairs_limit = r.chairs_limit;
      at_node = r.at_node;
      ready_limit = r.ready_limit;
      rides_fit = All-filter (λ (ride : Ride). not (ride.id == id)) (IsRide roads) v.rides.items r.rides_fit;
      picked_before = All-filter (λ (ride : Ride). not (ride.id == id)) (λ (ride : Ride). IfSome ride.picked (λ picked. picked ≤ v.ready)) v.rides.items r.picked_before;
      planned = plan-same (rides_without id v.rides.items) (stops_without id v.stops.items) left.out
          (unlegged-routed roads v.at (stops_without id v.stops.items) left.out left.route) (plan-without id v.rides.items v.stops.items r.planned);
      legs = routed-has_legs roads v.at (stops_without id v.stops.items) left.out left.route;
    } in
    subst (IsRouted roads) (sym (without_ride-is roads v id left.out left.route)) made

-- a lawful vehicle is lawful without a ride
pub lawful-without : (roads : RoadMap) (v : Vehicle) (id : ℕ) → IsRoadMap roads → IsLawful roads v → IsLawful roads (without_ride roads v id)
lawful-without roads v id fits lawful =
    let left = route_without roads v id 0 0 fits lawful.routed.legs in
    record {
      routed = routed-without roads v id fits lawful.routed;
      loads = subst (λ w. loads_fit w ≡ true) (sym (without_ride-is roads v id left.out left.route))
          (loads_fit-throughout (with_plan v (rides_without id v.rides.items) left.out)
          (fits-without v id left.out (unlegged-routed roads v.at (stops_without id v.stops.items) left.out left.route) (fits_throughout v lawful.loads)));
    }

-- filters of visits by another ride and by the rides that are left
pub visits-other : (id other : ℕ) (visits : List (Stop × ℕ)) → eqb other id ≡ false
    → filter (of_ride (λ q. q == other)) (filter (of_ride (is_other id)) visits) ≡ filter (of_ride (λ q. q == other)) visits
visits-other id other [] differ = refl
visits-other id other (visit ∷ visits) differ =
    elim (eqb visit.0.ride id) as (λ b. eqb visit.0.ride id ≡ b
    → filter (of_ride (λ q. q == other)) (cond (not b) (visit ∷ filter (of_ride (is_other id)) visits) (filter (of_ride (is_other id)) visits))
    ≡ filter (of_ride (λ q. q == other)) (visit ∷ visits)) [
      | true ↦ λ is. visits-other id other visits differ ∙ sym (filter-skipped (of_ride (λ q. q == other)) visit visits (not_other (eqb-true visit.0.ride id is)))
      | false ↦ λ is.
          elim (eqb visit.0.ride other) as (λ b.
          cond b (visit ∷ filter (of_ride (λ q. q == other)) (filter (of_ride (is_other id)) visits)) (filter (of_ride (λ q. q == other)) (filter (of_ride (is_other id)) visits))
          ≡ cond b (visit ∷ filter (of_ride (λ q. q == other)) visits) (filter (of_ride (λ q. q == other)) visits)) [
            | true ↦ ap (λ rest. visit ∷ rest) (visits-other id other visits differ)
            | false ↦ visits-other id other visits differ
          ]
    ] refl
  where
    not_other : visit.0.ride ≡ id → eqb visit.0.ride other ≡ false
    not_other same = by_cases (eqb visit.0.ride other) refl
      where
        by_cases : (b : Bool) → eqb visit.0.ride other ≡ b → b ≡ false
        by_cases true is = absurd (cc (differ, eq-eqb other id (sym (eqb-true visit.0.ride other is) ∙ same)))
        by_cases false is = refl

-- the visits of another ride are not later without the ride, and not farther apart
pub visits-sooner : (roads : RoadMap) (v : Vehicle) (id other start dwell : ℕ) → IsRoadMap roads → IsRouted roads v → eqb other id ≡ false
    → AllSooner 0 (visits_of (without_ride roads v id) start dwell other) (visits_of v start dwell other)
visits-sooner roads v id other start dwell fits r differ =
    let left = route_without roads v id start dwell fits r.legs in
    let both = sooner-filter (λ q. q == other) 0 (visits_from dwell start left.out) (filter (of_ride (is_other id)) (visits_from dwell start v.stops.items)) left.sooner in
    let of_other = subst (AllSooner 0 (filter (of_ride (λ q. q == other)) (visits_from dwell start left.out)))
    (visits-other id other (visits_from dwell start v.stops.items) differ) both in
    subst (λ w. AllSooner 0 (visits_of w start dwell other) (visits_of v start dwell other)) (sym (without_ride-is roads v id left.out left.route)) of_other

-- what kept a ride's limits keeps them when it comes sooner
pub keeps-sooner : (ride : Ride) (picked : Option ℕ) (gain : ℕ) (xs ys : List (Stop × ℕ)) → AllSooner gain xs ys
    → keeps_visits ride picked ys ≡ true → keeps_visits ride picked xs ≡ true
keeps-sooner ride None gain (p ∷ d ∷ []) (q ∷ e ∷ []) (more, _, first, (most, further, second, _)) keeps =
    let (three, within) = and_parts (is_pickup_at ride.from q.0 && is_dropoff_at ride.to e.0 && leb q.1 ride.latest) (leb e.1 (q.1 + ride.longest)) keeps in
    let (places, in_time) = and_parts (is_pickup_at ride.from q.0 && is_dropoff_at ride.to e.0) (leb q.1 ride.latest) three in
    and_from (is_pickup_at ride.from p.0 && is_dropoff_at ride.to d.0 && leb p.1 ride.latest) (leb d.1 (p.1 + ride.longest))
    (and_from (is_pickup_at ride.from p.0 && is_dropoff_at ride.to d.0) (leb p.1 ride.latest)
    (same_places ∙ places)
    (le-leb p.1 ride.latest (omega (arith, leb-true q.1 ride.latest in_time, first.time_is))))
    (le-leb d.1 (p.1 + ride.longest) (omega (arith, leb-true e.1 (q.1 + ride.longest) within, first.time_is, second.time_is)))
  where
    same_places : (is_pickup_at ride.from p.0 && is_dropoff_at ride.to d.0) ≡ (is_pickup_at ride.from q.0 && is_dropoff_at ride.to e.0)
    same_places = rw (first.kind_is, first.node_is, second.kind_is, second.node_is) refl
keeps-sooner ride (Some at) gain (d ∷ []) (e ∷ []) (more, _, only, _) keeps =
    let (place, within) = and_parts (is_dropoff_at ride.to e.0) (leb e.1 (at + ride.longest)) keeps in
    and_from (is_dropoff_at ride.to d.0) (leb d.1 (at + ride.longest))
    (same_place ∙ place)
    (le-leb d.1 (at + ride.longest) (omega (arith, leb-true e.1 (at + ride.longest) within, only.time_is)))
  where
    same_place : is_dropoff_at ride.to d.0 ≡ is_dropoff_at ride.to e.0
    same_place = rw (only.kind_is, only.node_is) refl
keeps-sooner ride None gain xs [] s keeps = absurd (cc keeps)
keeps-sooner ride None gain xs (q ∷ []) s keeps = absurd (cc keeps)
keeps-sooner ride None gain xs (q ∷ e ∷ f ∷ ys) s keeps = absurd (cc keeps)
keeps-sooner ride None gain [] (q ∷ e ∷ []) s keeps = absurd s
keeps-sooner ride None gain (p ∷ []) (q ∷ e ∷ []) (more, _, first, s) keeps = absurd s
keeps-sooner ride None gain (p ∷ d ∷ c ∷ xs) (q ∷ e ∷ []) (more, _, first, (most, further, second, s)) keeps = absurd s
keeps-sooner ride (Some at) gain xs [] s keeps = absurd (cc keeps)
keeps-sooner ride (Some at) gain xs (e ∷ f ∷ ys) s keeps = absurd (cc keeps)
keeps-sooner ride (Some at) gain [] (e ∷ []) s keeps = absurd s
keeps-sooner ride (Some at) gain (d ∷ c ∷ xs) (e ∷ []) (more, _, only, s) keeps = absurd s

-- what broke no limit of a ride breaks none when it comes sooner
pub breaks-sooner : (ride : Ride) (picked : Option ℕ) (gain : ℕ) (xs ys : List (Stop × ℕ)) → AllSooner gain xs ys
    → breaks_visits ride picked ys ≡ false → breaks_visits ride picked xs ≡ false
breaks-sooner ride None gain (p ∷ d ∷ []) (q ∷ e ∷ []) (more, _, first, (most, further, second, _)) whole =
    let (in_time, within) = or_parts (ltb ride.latest q.1) (ltb (q.1 + ride.longest) e.1) whole in
    or_from (ltb ride.latest p.1) (ltb (p.1 + ride.longest) d.1)
    (le-ltb ride.latest p.1 (omega (arith, ltb-false ride.latest q.1 in_time, first.time_is)))
    (le-ltb (p.1 + ride.longest) d.1 (omega (arith, ltb-false (q.1 + ride.longest) e.1 within, first.time_is, second.time_is)))
breaks-sooner ride (Some at) gain (d ∷ []) (e ∷ []) (more, _, only, _) whole =
    le-ltb (at + ride.longest) d.1 (omega (arith, ltb-false (at + ride.longest) e.1 whole, only.time_is))
breaks-sooner ride None gain [] ys s whole = refl
breaks-sooner ride None gain (p ∷ []) ys s whole = refl
breaks-sooner ride None gain (p ∷ d ∷ c ∷ xs) ys s whole = refl
breaks-sooner ride None gain (p ∷ d ∷ []) [] s whole = absurd s
breaks-sooner ride None gain (p ∷ d ∷ []) (q ∷ []) (more, _, first, s) whole = absurd s
breaks-sooner ride None gain (p ∷ d ∷ []) (q ∷ e ∷ f ∷ ys) (more, _, first, (most, further, second, s)) whole = absurd s
breaks-sooner ride (Some at) gain [] ys s whole = refl
breaks-sooner ride (Some at) gain (d ∷ c ∷ xs) ys s whole = refl
breaks-sooner ride (Some at) gain (d ∷ []) [] s whole = absurd s
breaks-sooner ride (Some at) gain (d ∷ []) (e ∷ f ∷ ys) (more, _, only, s) whole = absurd s

-- a promise that is kept, or not broken, is so without another ride
pub keeps_ride-without : (roads : RoadMap) (v : Vehicle) (id start dwell : ℕ) (ride : Ride) → IsRoadMap roads → IsRouted roads v
    → eqb ride.id id ≡ false → keeps_ride v start dwell ride ≡ true → keeps_ride (without_ride roads v id) start dwell ride ≡ true
keeps_ride-without roads v id start dwell ride fits r differ keeps =
    keeps-sooner ride ride.picked 0 (visits_of (without_ride roads v id) start dwell ride.id) (visits_of v start dwell ride.id)
    (visits-sooner roads v id ride.id start dwell fits r differ) keeps

pub breaks_ride-without : (roads : RoadMap) (v : Vehicle) (id dwell : ℕ) (ride : Ride) → IsRoadMap roads → IsRouted roads v
    → eqb ride.id id ≡ false → breaks_ride v dwell ride ≡ false → breaks_ride (without_ride roads v id) dwell ride ≡ false
breaks_ride-without roads v id dwell ride fits r differ whole =
    breaks-sooner ride ride.picked 0 (visits_of (without_ride roads v id) v.ready dwell ride.id) (visits_of v v.ready dwell ride.id)
    (visits-sooner roads v id ride.id v.ready dwell fits r differ) whole
