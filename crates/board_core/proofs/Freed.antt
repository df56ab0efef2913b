-- A plan from which a ride is taken.
use Rattle.board_core.proofs.Common.{◌≡◌, ℕ, ◌+◌, ◌-◌, ◌≤◌, true, false, cond, List, [], ◌∷◌, ◌++◌, length, eqb, refl, sym, ◌∙◌, ap, length-append, arith, map, eqb-true, Kind, Pickup, Dropoff, Ride, Stop, Vehicle, RoadMap, IsRoadMap, IsLawful, visit_of, visits_due, stops_of, stops_without, without_ride, leg_at, RemovesFrom, IsFirst, is_visit, among_from_contains, of_all, same-head, same-tail, nodes_without, leg_along, HasWaiting}
use Rattle.model_laws.proofs.Removal.{route_without, without_ride-is}
use Rattle.stop_plans.proofs.RemovedLegs.{removal_places}
use Rattle.board_core.proofs.LegLaws.{leg-of_route}

-- the first stop of a ride, with what stands before and behind it
record FirstOf (id : ℕ) (stops : List Stop) (visit : Kind × ℕ) (visits : List (Kind × ℕ)) : Type 0 where
  before : List Stop
  stop : Stop
  rest : List Stop
  stops_are : stops ≡ before ++ stop ∷ rest
  ride_is : stop.ride ≡ id
  visit_is : visit_of stop ≡ visit
  rest_are : map visit_of (stops_of id rest) ≡ visits

first-of : (id : ℕ) (stops : List Stop) (visit : Kind × ℕ) (visits : List (Kind × ℕ)) → map visit_of (stops_of id stops) ≡ visit ∷ visits
    → FirstOf id stops visit visits
first-of id [] visit visits is = absurd (cc is)
first-of id (s ∷ stops) visit visits is =
    elim (eqb s.ride id) as (λ b. eqb s.ride id ≡ b → map visit_of (cond b (s ∷ stops_of id stops) (stops_of id stops)) ≡ visit ∷ visits
    → FirstOf id (s ∷ stops) visit visits) [
      | true ↦ λ here is. record {
        before = [];
        stop = s;
        rest = stops;
        stops_are = refl;
        ride_is = eqb-true s.ride id here;
        visit_is = same-head (visit_of s) visit (map visit_of (stops_of id stops)) visits is;
        rest_are = same-tail (visit_of s) visit (map visit_of (stops_of id stops)) visits is;
      }
      | false ↦ λ other is.
          let later = first-of id stops visit visits is in
          record {
            before = s ∷ later.before;
            stop = later.stop;
            rest = later.rest;
            stops_are = ap (λ more. s ∷ more) later.stops_are;
            ride_is = later.ride_is;
            visit_is = later.visit_is;
            rest_are = later.rest_are;
          }
    ] refl is

-- what is taken out, with the legs that are left
canonical : (roads : RoadMap) (v : Vehicle) (id : ℕ) → IsRoadMap roads → IsLawful roads v → HasWaiting v id
    → (first : ℕ) × (second : ℕ) × RemovesFrom roads v id first second
canonical roads v id fits lawful waiting =
    let needs = of_all (λ (q : Ride). map visit_of (stops_of q.id v.stops.items) ≡ visits_due q q.picked) v.rides.items waiting.ride
    lawful.routed.planned.each_ride (among_from_contains v.rides.items waiting.ride waiting.there) in
    let due : map visit_of (stops_of id v.stops.items) ≡ (Pickup, waiting.ride.from) ∷ (Dropoff, waiting.ride.to) ∷ []
    = ap (λ n. map visit_of (stops_of n v.stops.items)) (sym waiting.id_is) ∙ needs ∙ ap (visits_due waiting.ride) waiting.waits in
    let pickup = first-of id v.stops.items (Pickup, waiting.ride.from) ((Dropoff, waiting.ride.to) ∷ []) due in
    let dropoff = first-of id pickup.rest (Dropoff, waiting.ride.to) [] pickup.rest_are in (
      leg_at (without_ride roads v id).stops.items (length pickup.before),
      leg_at (without_ride roads v id).stops.items (length pickup.before + length dropoff.before),
      record {
        map_fits = fits;
        lawful = lawful;
        before = pickup.before;
        pickup = pickup.stop;
        between = dropoff.before;
        dropoff = dropoff.stop;
        after = dropoff.rest;
        stops_are = pickup.stops_are ∙ ap (λ rest. pickup.before ++ pickup.stop ∷ rest) dropoff.stops_are;
        pickup_is = (pickup.ride_is, ap (λ (w : Kind × ℕ). w.0) pickup.visit_is);
        dropoff_is = (dropoff.ride_is, ap (λ (w : Kind × ℕ). w.0) dropoff.visit_is);
        first_is = refl;
        second_is = refl;
      },
    )

-- where the stops of a waiting ride stand, and the legs behind them in the plan that is left
pub record Frees (roads : RoadMap) (v : Vehicle) (id pickup dropoff : ℕ) : Type 0 where
  pub behind_pickup : 1 ≤ dropoff
  pub removes : RemovesFrom roads v id (leg_along roads (nodes_without v id) pickup) (leg_along roads (nodes_without v id) (dropoff - 1))

pub frees : (roads : RoadMap) (v : Vehicle) (id pickup dropoff : ℕ) → IsRoadMap roads → IsLawful roads v → HasWaiting v id
    → IsFirst (is_visit id Pickup) v.stops.items pickup → IsFirst (is_visit id Dropoff) v.stops.items dropoff
    → Frees roads v id pickup dropoff
frees roads v id pickup dropoff fits lawful waiting first_pickup first_dropoff =
    let (first, second, h) = canonical roads v id fits lawful waiting in
    let places = removal_places roads v id first second h pickup dropoff first_pickup first_dropoff in
    let left = route_without roads v id 0 0 fits lawful.routed.legs in
    let legs : (place : ℕ) → leg_at (without_ride roads v id).stops.items place ≡ leg_along roads (nodes_without v id) place
    = λ place. ap (λ (w : Vehicle). leg_at w.stops.items place) (without_ride-is roads v id left.out left.route)
    ∙ leg-of_route roads v.at (stops_without id v.stops.items) left.out place left.route in
    let behind : dropoff ≡ length h.before + length h.between + 1
    = omega (arith, places.dropoff_place, length-append h.before (h.pickup ∷ h.between)) in
    let second_place : dropoff - 1 ≡ length h.before + length h.between = omega (arith, behind) in
    record {
      behind_pickup = omega (arith, behind);
      removes = record {
        map_fits = fits;
        lawful = lawful;
        before = h.before;
        pickup = h.pickup;
        between = h.between;
        dropoff = h.dropoff;
        after = h.after;
        stops_are = h.stops_are;
        pickup_is = h.pickup_is;
        dropoff_is = h.dropoff_is;
        first_is = ap (leg_along roads (nodes_without v id)) places.pickup_place ∙ sym (legs (length h.before));
        second_is = ap (leg_along roads (nodes_without v id)) second_place ∙ sym (legs (length h.before + length h.between));
      };
    }
