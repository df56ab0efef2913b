-- A ride's visits with their arrivals.
use Rattle.promises.proofs.Common.{◌≡◌, ℕ, zero, suc, ◌+◌, ◌*◌, ◌<◌, ◌≤◌, Bool, true, false, not, cond, ◌&&◌, ◌||◌, List, [], ◌∷◌, length, drop, get_or, eqb, leb, ltb, le-leb, refl, sym, ◌∙◌, ap, arith, add-one, map, filter, zip, All, Option, Some, None, ◌==◌, AllByRecursion, list_all, eq-eqb, nat_tests, All-from_recursion, recursion_from_All, Ride, Stop, loads_fit, times_from, times_of, visits_due, visit_of, stops_of, ride_ids, IsRoutedSomewhere, keeps_visits, keeps_ride, keeps, breaks_visits, broken_of, arrival_of, boarding_of, breaks_trip, breaks_along}
use Rattle.ride_model.specs.declared.vehicle.Kind.{Kind}
use Rattle.ride_model.specs.declared.vehicle.Kind.TheVariants.{Pickup, Dropoff}
use Rattle.ride_model.specs.declared.vehicle.Vehicle.{Vehicle}
use Rattle.stop_plans.specs.inner.First.{is_kind, is_visit}
use Rattle.stop_plans.proofs.Legs.{legs_are_bounded}

-- a ride's stops with their arrivals
abbrev pub visits_along : ℕ → List Stop → List ℕ → List (Stop × ℕ)
visits_along id stops times = filter (λ (visit : Stop × ℕ). visit.0.ride == id) (zip stops times)

-- the first of a kind
abbrev pub first_time : Kind → List (Stop × ℕ) → Option ℕ
first_time kind [] = None
first_time kind (visit ∷ visits) = cond (is_kind visit.0.kind kind) (Some visit.1) (first_time kind visits)

-- an arrival is that of the first visit of its kind
pub arrival-first : (id : ℕ) (kind : Kind) (stops : List Stop) (times : List ℕ)
    → arrival_of id kind stops times ≡ first_time kind (visits_along id stops times)
arrival-first id kind [] times = refl
arrival-first id kind (s ∷ stops) [] = refl
arrival-first id kind (s ∷ stops) (t ∷ times) =
    elim (eqb s.ride id) as (λ b. cond (b && is_kind s.kind kind) (Some t) (arrival_of id kind stops times)
    ≡ first_time kind (cond b ((s, t) ∷ visits_along id stops times) (visits_along id stops times))) [
      | true ↦ ap (cond (is_kind s.kind kind) (Some t)) (arrival-first id kind stops times)
      | false ↦ arrival-first id kind stops times
    ]

-- a stop that is not the visit
pub arrival-later : (id : ℕ) (kind : Kind) (stops : List Stop) (times : List ℕ) (i : ℕ) (d : Stop) → i < length stops → length times ≡ length stops
    → is_visit id kind (get_or stops i d) ≡ false
    → arrival_of id kind (drop (i + 1) stops) (drop (i + 1) times) ≡ arrival_of id kind (drop i stops) (drop i times)
arrival-later id kind stops times i d within same other =
    ap (λ n. arrival_of id kind (drop n stops) (drop n times)) (add-one i) ∙ later stops times i within same other
  where
    later : (ss : List Stop) (ts : List ℕ) (n : ℕ) → n < length ss → length ts ≡ length ss → is_visit id kind (get_or ss n d) ≡ false
        → arrival_of id kind (drop (suc n) ss) (drop (suc n) ts) ≡ arrival_of id kind (drop n ss) (drop n ts)
    later [] ts n h k o = absurd (omega arith)
    later (s ∷ ss) [] n h k o = absurd (omega (arith, k))
    later (s ∷ ss) (t ∷ ts) zero h k o = sym (ap (λ b. cond b (Some t) (arrival_of id kind ss ts)) o)
    later (s ∷ ss) (t ∷ ts) (suc n) h k o = later ss ts n (omega arith) (omega (arith, k)) o

-- the visits are those of the ride's stops
abbrev pub happens : Stop × ℕ → Kind × ℕ
happens visit = visit_of visit.0

pub visits-happen : (id : ℕ) (stops : List Stop) (times : List ℕ) → length times ≡ length stops
    → map happens (visits_along id stops times) ≡ map visit_of (stops_of id stops)
visits-happen id [] times same = refl
visits-happen id (s ∷ stops) [] same = absurd (omega (arith, same))
visits-happen id (s ∷ stops) (t ∷ times) same =
    elim (eqb s.ride id) as (λ b. map happens (cond b ((s, t) ∷ visits_along id stops times) (visits_along id stops times))
    ≡ map visit_of (cond b (s ∷ stops_of id stops) (stops_of id stops))) [
      | true ↦ ap (λ rest. visit_of s ∷ rest) (visits-happen id stops times (omega (arith, same)))
      | false ↦ visits-happen id stops times (omega (arith, same))
    ]

-- when the rider boards, by the visits
abbrev pub boarding_in : Option ℕ → List (Stop × ℕ) → Option ℕ
boarding_in None visits = first_time Pickup visits
boarding_in (Some at) visits = Some at

one-visit : (a b : Kind × ℕ) → a ∷ [] ≡ b ∷ [] → a ≡ b
one-visit a b e = cc

two-visits : (a b c d : Kind × ℕ) → a ∷ b ∷ [] ≡ c ∷ d ∷ [] → (a ≡ c) × (b ≡ d)
two-visits a b c d e = (cc, cc)

not-lt : (a b : ℕ) → not (ltb a b) ≡ leb b a
not-lt a b = grind (arith, nat_tests)

not-or : (a b : Bool) → not (a || b) ≡ (not a && not b)
not-or true b = refl
not-or false b = refl

-- the limits that the visits that are due break
pub breaks-due : (ride : Ride) (picked : Option ℕ) (visits : List (Stop × ℕ)) → ride.picked ≡ picked → map happens visits ≡ visits_due ride picked
    → breaks_trip ride (boarding_in picked visits) (first_time Dropoff visits) ≡ breaks_visits ride picked visits
breaks-due ride None (p ∷ d ∷ []) is due =
    let (first, second) = two-visits (happens p) (happens d) (Pickup, ride.from) (Dropoff, ride.to) due in
    let first_kind : p.0.kind ≡ Pickup = ap (λ (w : Kind × ℕ). w.0) first in
    let second_kind : d.0.kind ≡ Dropoff = ap (λ (w : Kind × ℕ). w.0) second in
    rw (first_kind, second_kind, is) refl
breaks-due ride (Some at) (d ∷ []) is due =
    let kind : d.0.kind ≡ Dropoff = ap (λ (w : Kind × ℕ). w.0) (one-visit (happens d) (Dropoff, ride.to) due) in
    rw (kind, is) refl
breaks-due ride None [] is due = absurd (cc due)
breaks-due ride None (p ∷ []) is due = absurd (cc due)
breaks-due ride None (p ∷ d ∷ e ∷ visits) is due = absurd (cc due)
breaks-due ride (Some at) [] is due = absurd (cc due)
breaks-due ride (Some at) (d ∷ e ∷ visits) is due = absurd (cc due)

-- visits that are due are kept where they break no limit
pub keeps-due : (ride : Ride) (picked : Option ℕ) (visits : List (Stop × ℕ)) → map happens visits ≡ visits_due ride picked
    → not (breaks_visits ride picked visits) ≡ keeps_visits ride picked visits
keeps-due ride None (p ∷ d ∷ []) due =
    let (first, second) = two-visits (happens p) (happens d) (Pickup, ride.from) (Dropoff, ride.to) due in
    let first_kind : p.0.kind ≡ Pickup = ap (λ (w : Kind × ℕ). w.0) first in
    let first_node : p.0.node ≡ ride.from = ap (λ (w : Kind × ℕ). w.1) first in
    let second_kind : d.0.kind ≡ Dropoff = ap (λ (w : Kind × ℕ). w.0) second in
    let second_node : d.0.node ≡ ride.to = ap (λ (w : Kind × ℕ). w.1) second in
    not-or (ltb ride.latest p.1) (ltb (p.1 + ride.longest) d.1)
    ∙ ap (λ b. b && not (ltb (p.1 + ride.longest) d.1)) (not-lt ride.latest p.1)
    ∙ ap (λ b. leb p.1 ride.latest && b) (not-lt (p.1 + ride.longest) d.1)
    ∙ sym (rw (first_kind, second_kind, eq-eqb p.0.node ride.from first_node, eq-eqb d.0.node ride.to second_node) refl)
keeps-due ride (Some at) (d ∷ []) due =
    let only = one-visit (happens d) (Dropoff, ride.to) due in
    let kind : d.0.kind ≡ Dropoff = ap (λ (w : Kind × ℕ). w.0) only in
    let node : d.0.node ≡ ride.to = ap (λ (w : Kind × ℕ). w.1) only in
    not-lt (at + ride.longest) d.1
    ∙ sym (rw (kind, eq-eqb d.0.node ride.to node) refl)
keeps-due ride None [] due = absurd (cc due)
keeps-due ride None (p ∷ []) due = absurd (cc due)
keeps-due ride None (p ∷ d ∷ e ∷ visits) due = absurd (cc due)
keeps-due ride (Some at) [] due = absurd (cc due)
keeps-due ride (Some at) (d ∷ e ∷ visits) due = absurd (cc due)

-- the stops of a ride are those that it needs
abbrev pub HasVisits : List Stop → Ride → Type 0
HasVisits stops ride = map visit_of (stops_of ride.id stops) ≡ visits_due ride ride.picked

-- the limits that the arrivals break
pub breaks-along : (ride : Ride) (stops : List Stop) (times : List ℕ) → length times ≡ length stops → HasVisits stops ride
    → breaks_along stops times ride ≡ breaks_visits ride ride.picked (visits_along ride.id stops times)
breaks-along ride stops times same due =
    ap (breaks_trip ride (boarding_of ride ride.picked stops times)) (arrival-first ride.id Dropoff stops times)
    ∙ ap (λ o. breaks_trip ride o (first_time Dropoff (visits_along ride.id stops times))) (boards ride.picked)
    ∙ breaks-due ride ride.picked (visits_along ride.id stops times) refl (visits-happen ride.id stops times same ∙ due)
  where
    boards : (picked : Option ℕ) → boarding_of ride picked stops times ≡ boarding_in picked (visits_along ride.id stops times)
    boards None = arrival-first ride.id Pickup stops times
    boards (Some at) = refl

pub keeps-along : (ride : Ride) (stops : List Stop) (times : List ℕ) → length times ≡ length stops → HasVisits stops ride
    → not (breaks_along stops times ride) ≡ keeps_visits ride ride.picked (visits_along ride.id stops times)
keeps-along ride stops times same due =
    ap not (breaks-along ride stops times same due)
    ∙ keeps-due ride ride.picked (visits_along ride.id stops times) (visits-happen ride.id stops times same ∙ due)

-- all rides
pub breaks-all : (stops : List Stop) (times : List ℕ) (rides : List Ride) → length times ≡ length stops → AllByRecursion (HasVisits stops) rides
    → filter (breaks_along stops times) rides
    ≡ filter (λ (ride : Ride). breaks_visits ride ride.picked (visits_along ride.id stops times)) rides
breaks-all stops times [] same h = refl
breaks-all stops times (r ∷ rides) same (first, rest) =
    ap (λ b. cond b (r ∷ filter (breaks_along stops times) rides) (filter (breaks_along stops times) rides)) (breaks-along r stops times same first)
    ∙ ap (λ more. cond (breaks_visits r r.picked (visits_along r.id stops times)) (r ∷ more) more) (breaks-all stops times rides same rest)

pub keeps-all : (stops : List Stop) (times : List ℕ) (rides : List Ride) → length times ≡ length stops → AllByRecursion (HasVisits stops) rides
    → list_all (λ (ride : Ride). not (breaks_along stops times ride)) rides
    ≡ list_all (λ (ride : Ride). keeps_visits ride ride.picked (visits_along ride.id stops times)) rides
keeps-all stops times [] same h = refl
keeps-all stops times (r ∷ rides) same (first, rest) =
    ap (λ b. b && list_all (λ (ride : Ride). not (breaks_along stops times ride)) rides) (keeps-along r stops times same first)
    ∙ ap (λ more. keeps_visits r r.picked (visits_along r.id stops times) && more) (keeps-all stops times rides same rest)

-- one arrival for each stop
pub length-times : (dwell leave : ℕ) (stops : List Stop) → length (times_from dwell leave stops) ≡ length stops
length-times dwell leave [] = refl
length-times dwell leave (s ∷ stops) = ap suc (length-times dwell (leave + s.leg + dwell) stops)

-- arrivals are bounded
times-le : (dwell leave most : ℕ) (stops : List Stop) → dwell ≤ 3600 → AllByRecursion (λ (s : Stop). s.leg ≤ 500000000000000) stops
    → leave + length stops * 500000000003600 ≤ most → AllByRecursion (λ time. time ≤ most) (times_from dwell leave stops)
times-le dwell leave most [] few legs below = tt
times-le dwell leave most (s ∷ stops) few (leg, legs) below =
    (omega (arith, leg), times-le dwell (leave + s.leg + dwell) most stops few legs (omega (arith, leg)))

pub times-soon : (v : Vehicle) (start dwell : ℕ) → IsRoutedSomewhere v → start ≤ 1000003600 → dwell ≤ 3600 → length v.stops.items ≤ 16
    → All (λ time. time ≤ 10000000000000000) (times_of v start dwell)
times-soon v start dwell routed begins stands few =
    All-from_recursion _ (times_of v start dwell)
    (times-le dwell start 10000000000000000 v.stops.items stands (recursion_from_All _ v.stops.items (legs_are_bounded v routed)) (omega arith))

-- the arrivals at a vehicle's stops keep its rides' limits
pub keeps-vehicle : (v : Vehicle) (start dwell : ℕ) → IsRoutedSomewhere v → length v.stops.items ≤ 16
    → (list_all (λ (ride : Ride). not (breaks_along v.stops.items (times_of v start dwell) ride)) v.rides.items && loads_fit v) ≡ keeps v start dwell
keeps-vehicle v start dwell (roads, fits, routed) few =
    ap (λ b. b && loads_fit v) (keeps-all v.stops.items (times_of v start dwell) v.rides.items (length-times dwell start v.stops.items)
    (recursion_from_All _ v.rides.items routed.planned.each_ride))
    ∙ ap (λ b. b && list_all (keeps_ride v start dwell) v.rides.items && loads_fit v) (sym (le-leb (length v.stops.items) 16 few))

pub broken-vehicle : (v : Vehicle) (dwell : ℕ) → IsRoutedSomewhere v
    → ride_ids (filter (breaks_along v.stops.items (times_of v v.ready dwell)) v.rides.items) ≡ broken_of v dwell
broken-vehicle v dwell (roads, fits, routed) =
    ap ride_ids (breaks-all v.stops.items (times_of v v.ready dwell) v.rides.items (length-times dwell v.ready v.stops.items)
    (recursion_from_All _ v.rides.items routed.planned.each_ride))
