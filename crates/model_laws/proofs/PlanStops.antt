-- Plans: rides and the stops that they need, whatever the legs.
use Rattle.model_laws.proofs.Common.{◌≡◌, ℕ, ◌⊎◌, inl, inr, Bool, true, false, not, cond, List, [], ◌∷◌, eqb, refl, sym, ◌∙◌, ap, subst, map, All, Option, Some, None, option_map, option_and_then, Contains, filter, IsDistinct, AllByRecursion, eqb-true, eq-eqb, All-from_recursion, recursion_from_All, IsDistinct-head, IsDistinct-tail, IsDistinct-cons, same_Some, Kind, Ride, Stop, RoadMap, travel, IsNode, visits_due, visit_of, stops_of, ride_ids, IsPlanFor, IsRide, IsLawful, routed, stops_without, rides_without, Vehicle}
use Rattle.model_laws.proofs.plain.Among.{Among, among_from_contains, contains_from_among, among_map, among_map_back, among_filter}
use Rattle.model_laws.proofs.plain.Each.{of_all}
use Rattle.model_laws.proofs.plain.Lists.{distinct-filter}
use Rattle.model_laws.proofs.plain.Numbers.{eqb-other}
use Rattle.model_laws.proofs.Routes.{with_leg}

-- stops without their legs
abbrev pub unlegged : List Stop → List Stop
unlegged stops = map (with_leg 0) stops

-- a route changes legs alone
pub unlegged-routed : (roads : RoadMap) (at : ℕ) (stops out : List Stop) → routed roads at stops ≡ Some out → unlegged out ≡ unlegged stops
unlegged-routed roads at [] out is = ap unlegged (sym (same_Some [] out is))
unlegged-routed roads at (stop ∷ stops) out is =
    elim (travel roads at stop.node) as (λ o.
    option_and_then (λ leg. option_map (λ rest. with_leg leg stop ∷ rest) (routed roads stop.node stops)) o ≡ Some out
    → unlegged out ≡ unlegged (stop ∷ stops)) [
      | None ↦ λ none. absurd (cc none)
      | Some leg ↦ λ some.
          elim (routed roads stop.node stops) as (λ o. routed roads stop.node stops ≡ o
          → option_map (λ rest. with_leg leg stop ∷ rest) o ≡ Some out → unlegged out ≡ unlegged (stop ∷ stops)) [
            | None ↦ λ _ none. absurd (cc none)
            | Some rest ↦ λ on made.
                ap unlegged (sym (same_Some (with_leg leg stop ∷ rest) out made)) ∙ ap (λ more. with_leg 0 stop ∷ more) (unlegged-routed roads stop.node stops rest on)
          ] refl some
    ] is

-- the visits of a ride are the same whatever the legs
pub visits-unlegged : (id : ℕ) (stops : List Stop) → map visit_of (stops_of id (unlegged stops)) ≡ map visit_of (stops_of id stops)
visits-unlegged id [] = refl
visits-unlegged id (stop ∷ stops) =
    elim (eqb stop.ride id) as (λ b. map visit_of (cond b (with_leg 0 stop ∷ stops_of id (unlegged stops)) (stops_of id (unlegged stops)))
    ≡ map visit_of (cond b (stop ∷ stops_of id stops) (stops_of id stops))) [
      | true ↦ ap (λ rest. visit_of stop ∷ rest) (visits-unlegged id stops)
      | false ↦ visits-unlegged id stops
    ]

pub visits-same : (id : ℕ) (stops out : List Stop) → unlegged out ≡ unlegged stops → map visit_of (stops_of id out) ≡ map visit_of (stops_of id stops)
visits-same id stops out same =
    sym (visits-unlegged id out) ∙ ap (λ xs. map visit_of (stops_of id xs)) same ∙ visits-unlegged id stops

-- what holds of each stop's ride holds whatever the legs
each-unlegged : (P : ℕ → Type 0) (stops : List Stop) → AllByRecursion (λ (s : Stop). P s.ride) stops → AllByRecursion (λ (s : Stop). P s.ride) (unlegged stops)
each-unlegged P [] h = tt
each-unlegged P (s ∷ stops) (first, rest) = (first, each-unlegged P stops rest)

each-legged : (P : ℕ → Type 0) (stops : List Stop) → AllByRecursion (λ (s : Stop). P s.ride) (unlegged stops) → AllByRecursion (λ (s : Stop). P s.ride) stops
each-legged P [] h = tt
each-legged P (s ∷ stops) (first, rest) = (first, each-legged P stops rest)

pub each-same : (P : ℕ → Type 0) (stops out : List Stop) → unlegged out ≡ unlegged stops
    → AllByRecursion (λ (s : Stop). P s.ride) stops → AllByRecursion (λ (s : Stop). P s.ride) out
each-same P stops out same h =
    each-legged P out (subst (AllByRecursion (λ (s : Stop). P s.ride)) (sym same) (each-unlegged P stops h))

-- a plan is one whatever the legs
pub plan-same : (rides : List Ride) (stops out : List Stop) → unlegged out ≡ unlegged stops → IsPlanFor rides stops → IsPlanFor rides out
plan-same rides stops out same plan = record {
  ids_differ = plan.ids_differ;
  each_ride = All-from_recursion _ rides (each rides (recursion_from_All _ rides plan.each_ride));
  each_stop = All-from_recursion _ out (each-same (Contains (ride_ids rides)) stops out same (recursion_from_All _ stops plan.each_stop));
}
  where
    each : (rs : List Ride) → AllByRecursion (λ (ride : Ride). map visit_of (stops_of ride.id stops) ≡ visits_due ride ride.picked) rs
        → AllByRecursion (λ (ride : Ride). map visit_of (stops_of ride.id out) ≡ visits_due ride ride.picked) rs
    each [] h = tt
    each (ride ∷ rs) (first, rest) = (visits-same ride.id stops out same ∙ first, each rs rest)

-- the ids of the rides that are left
pub ids-without : (id : ℕ) (rides : List Ride) → ride_ids (rides_without id rides) ≡ filter (λ q. not (eqb q id)) (ride_ids rides)
ids-without id [] = refl
ids-without id (ride ∷ rides) =
    elim (eqb ride.id id) as (λ b. ride_ids (cond (not b) (ride ∷ rides_without id rides) (rides_without id rides))
    ≡ cond (not b) (ride.id ∷ filter (λ q. not (eqb q id)) (ride_ids rides)) (filter (λ q. not (eqb q id)) (ride_ids rides))) [
      | true ↦ ids-without id rides
      | false ↦ ap (λ rest. ride.id ∷ rest) (ids-without id rides)
    ]

-- the stops of another ride are all left
pub stops-without : (id other : ℕ) (stops : List Stop) → eqb other id ≡ false → stops_of other (stops_without id stops) ≡ stops_of other stops
stops-without id other [] differ = refl
stops-without id other (stop ∷ stops) differ =
    elim (eqb stop.ride id) as (λ b. eqb stop.ride id ≡ b
    → stops_of other (cond (not b) (stop ∷ stops_without id stops) (stops_without id stops)) ≡ stops_of other (stop ∷ stops)) [
      | true ↦ λ is.
          let not_other : eqb stop.ride other ≡ false = eqb-other stop.ride id other (eqb-true stop.ride id is) differ in
          rw not_other (stops-without id other stops differ)
      | false ↦ λ is.
          elim (eqb stop.ride other) as (λ b. cond b (stop ∷ stops_of other (stops_without id stops)) (stops_of other (stops_without id stops))
          ≡ cond b (stop ∷ stops_of other stops) (stops_of other stops)) [
            | true ↦ ap (λ rest. stop ∷ rest) (stops-without id other stops differ)
            | false ↦ stops-without id other stops differ
          ]
    ] refl

-- the rides that are left
each_left : (P : Ride → Type 0) (id : ℕ) (rides : List Ride) → ((ride : Ride) → eqb ride.id id ≡ false → P ride → P ride)
    → AllByRecursion P rides → AllByRecursion P (rides_without id rides)
each_left P id [] f h = tt
each_left P id (ride ∷ rides) f (first, rest) =
    elim (eqb ride.id id) as (λ b. AllByRecursion P (cond (not b) (ride ∷ rides_without id rides) (rides_without id rides))) [
      | true ↦ each_left P id rides f rest
      | false ↦ (first, each_left P id rides f rest)
    ]

-- a plan without a ride is one for the rides that are left
pub plan-without : (id : ℕ) (rides : List Ride) (stops : List Stop) → IsPlanFor rides stops
    → IsPlanFor (rides_without id rides) (stops_without id stops)
plan-without id rides stops plan = record {
  ids_differ = subst (IsDistinct eqb) (sym (ids-without id rides)) (distinct-filter (λ q. not (eqb q id)) (ride_ids rides) plan.ids_differ);
  each_ride = All-from_recursion _ (rides_without id rides) (each rides (recursion_from_All _ rides plan.each_ride));
  each_stop = All-from_recursion _ (stops_without id stops) (left stops (recursion_from_All _ stops plan.each_stop));
}
  where
    each : (rs : List Ride) → AllByRecursion (λ (ride : Ride). map visit_of (stops_of ride.id stops) ≡ visits_due ride ride.picked) rs
        → AllByRecursion (λ (ride : Ride). map visit_of (stops_of ride.id (stops_without id stops)) ≡ visits_due ride ride.picked) (rides_without id rs)
    each [] h = tt
    each (ride ∷ rs) (first, rest) =
        elim (eqb ride.id id) as (λ b. eqb ride.id id ≡ b
        → AllByRecursion (λ (r : Ride). map visit_of (stops_of r.id (stops_without id stops)) ≡ visits_due r r.picked)
        (cond (not b) (ride ∷ rides_without id rs) (rides_without id rs))) [
          | true ↦ λ _. each rs rest
          | false ↦ λ other. (ap (map visit_of) (stops-without id ride.id stops other) ∙ first, each rs rest)
        ] refl

    still : (q : ℕ) → eqb q id ≡ false → Contains (ride_ids rides) q → Contains (ride_ids (rides_without id rides)) q
    still q other there =
        contains_from_among (ride_ids (rides_without id rides)) q
        (subst (Among q) (sym (ids-without id rides))
        (among_filter (λ r. not (eqb r id)) (ride_ids rides) q (among_from_contains (ride_ids rides) q there) (ap not other)))

    left : (ss : List Stop) → AllByRecursion (λ (s : Stop). Contains (ride_ids rides) s.ride) ss
        → AllByRecursion (λ (s : Stop). Contains (ride_ids (rides_without id rides)) s.ride) (stops_without id ss)
    left [] h = tt
    left (s ∷ ss) (first, rest) =
        elim (eqb s.ride id) as (λ b. eqb s.ride id ≡ b
        → AllByRecursion (λ (t : Stop). Contains (ride_ids (rides_without id rides)) t.ride) (cond (not b) (s ∷ stops_without id ss) (stops_without id ss))) [
          | true ↦ λ _. left ss rest
          | false ↦ λ other. (still s.ride other first, left ss rest)
        ] refl

-- each stop of a plan is at a node of its ride
pub stop-of-ride : (rides : List Ride) (stops : List Stop) (stop : Stop) → IsPlanFor rides stops → Among stop stops
    → (ride : Ride) × Among ride rides × ((stop.node ≡ ride.from) ⊎ (stop.node ≡ ride.to))
stop-of-ride rides stops stop plan there =
    let named : Contains (ride_ids rides) stop.ride =
    of_all (λ (s : Stop). Contains (ride_ids rides) s.ride) stops stop plan.each_stop there in
    let (ride, among, is) = among_map_back (λ (r : Ride). r.id) rides stop.ride (among_from_contains (ride_ids rides) stop.ride named) in
    let due : map visit_of (stops_of ride.id stops) ≡ visits_due ride ride.picked =
    of_all (λ (r : Ride). map visit_of (stops_of r.id stops) ≡ visits_due r r.picked) rides ride plan.each_ride among in
    let own : Among stop (stops_of ride.id stops) =
    among_filter (λ (s : Stop). eqb s.ride ride.id) stops stop there (eq-eqb stop.ride ride.id (sym is)) in
    let visited : Among (visit_of stop) (visits_due ride ride.picked) =
    subst (Among (visit_of stop)) due (among_map visit_of (stops_of ride.id stops) stop own) in
    (ride, among, node_of ride ride.picked visited)
  where
    node_of : (ride : Ride) (picked : Option ℕ) → Among (visit_of stop) (visits_due ride picked)
        → (stop.node ≡ ride.from) ⊎ (stop.node ≡ ride.to)
    node_of ride None (inl is) = inl (sym (ap (λ (v : Kind × ℕ). v.1) is))
    node_of ride None (inr (inl is)) = inr (sym (ap (λ (v : Kind × ℕ). v.1) is))
    node_of ride None (inr (inr none)) = absurd none
    node_of ride (Some at) (inl is) = inr (sym (ap (λ (v : Kind × ℕ). v.1) is))
    node_of ride (Some at) (inr none) = absurd none

-- the stops of a lawful vehicle are at nodes
pub stop-at-node : (roads : RoadMap) (v : Vehicle) (stop : Stop) → IsLawful roads v → Among stop v.stops.items → IsNode roads stop.node
stop-at-node roads v stop lawful there =
    let (ride, among, node) = stop-of-ride v.rides.items v.stops.items stop lawful.routed.planned there in
    let fits = of_all (IsRide roads) v.rides.items ride lawful.routed.rides_fit among in
    elim node [
      | inl from ↦ subst (IsNode roads) (sym from) fits.from_node
      | inr to ↦ subst (IsNode roads) (sym to) fits.to_node
    ]
