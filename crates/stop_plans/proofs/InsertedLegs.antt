-- The legs of a plan with a ride more.
use Rattle.stop_plans.proofs.Common.{◌≡◌, ℕ, zero, suc, ◌+◌, ◌<◌, ◌≤◌, List, [], ◌∷◌, ◌++◌, length, get_or, refl, sym, ◌∙◌, ap, arith, add-one, Some, None, option_map, option_and_then, insert, slice_set, same_Some, Joins, Offer, Ride, Stop, Vehicle, RoadMap, travel, HasLegs, routed, pickup_of, dropoff_of, stops_with, with_plan, leg_at, joins_of, inserted_facts, InsertsInto, with_leg, relegged, with_stop}
use Rattle.model_laws.proofs.Routes.{routed-own}

-- the first stop of a route and the route after it
pub record RouteHead (roads : RoadMap) (at : ℕ) (stop : Stop) (stops out : List Stop) : Type 0 where
  pub leg : ℕ
  pub rest : List Stop
  pub there : travel roads at stop.node ≡ Some leg
  pub on : routed roads stop.node stops ≡ Some rest
  pub out_is : out ≡ with_leg leg stop ∷ rest

pub route_head : (roads : RoadMap) (at : ℕ) (stop : Stop) (stops out : List Stop) → routed roads at (stop ∷ stops) ≡ Some out
    → RouteHead roads at stop stops out
route_head roads at stop stops out is =
    elim (travel roads at stop.node) as (λ o. travel roads at stop.node ≡ o
    → option_and_then (λ leg. option_map (λ rest. with_leg leg stop ∷ rest) (routed roads stop.node stops)) o ≡ Some out
    → RouteHead roads at stop stops out) [
      | None ↦ λ _ none. absurd (cc none)
      | Some leg ↦ λ there some.
          elim (routed roads stop.node stops) as (λ o. routed roads stop.node stops ≡ o
          → option_map (λ rest. with_leg leg stop ∷ rest) o ≡ Some out → RouteHead roads at stop stops out) [
            | None ↦ λ _ none. absurd (cc none)
            | Some rest ↦ λ on made. record { leg = leg; rest = rest; there = there; on = on; out_is = sym (same_Some _ _ made) }
          ] refl some
    ] refl is

-- the legs of stops behind a new one are theirs, but for the first
pub behind-new : (roads : RoadMap) (at from : ℕ) (stops out : List Stop) → HasLegs roads at stops → routed roads from stops ≡ Some out
    → out ≡ relegged 0 (leg_at out 0) stops
behind-new roads at from [] out legs is = sym (same_Some [] out is)
behind-new roads at from (s ∷ stops) out (there, rest) is =
    let head = route_head roads from s stops out is in
    let rest_is : head.rest ≡ stops = same_Some head.rest stops (sym head.on ∙ routed-own roads s.node stops rest) in
    let out_is : out ≡ with_leg head.leg s ∷ stops = head.out_is ∙ ap (λ more. with_leg head.leg s ∷ more) rest_is in
    out_is ∙ ap (λ xs. with_leg (leg_at xs 0) s ∷ stops) (sym out_is)

-- the legs of a plan with one stop more
pub one-more : (roads : RoadMap) (at place : ℕ) (x : Stop) (stops out : List Stop) → HasLegs roads at stops → place ≤ length stops
    → routed roads at (insert stops place x) ≡ Some out
    → out ≡ with_stop place (with_leg (leg_at out place) x) (leg_at out (suc place)) stops
one-more roads at zero x stops out legs within is =
    let head = route_head roads at x stops out is in
    let behind = behind-new roads at x.node stops head.rest legs head.on in
    let out_is : out ≡ with_leg head.leg x ∷ relegged 0 (leg_at head.rest 0) stops
    = head.out_is ∙ ap (λ more. with_leg head.leg x ∷ more) behind in
    out_is ∙ ap (λ xs. with_leg (leg_at xs 0) x ∷ relegged 0 (leg_at xs 1) stops) (sym head.out_is)
one-more roads at (suc place) x [] out legs within is = absurd (omega arith)
one-more roads at (suc place) x (s ∷ stops) out (there, rest) within is =
    let head = route_head roads at s (insert stops place x) out is in
    let leg_is : head.leg ≡ s.leg = same_Some head.leg s.leg (sym head.there ∙ there) in
    let on = one-more roads s.node place x stops head.rest rest (omega arith) head.on in
    let out_is : out ≡ s ∷ head.rest = head.out_is ∙ ap (λ leg. with_leg leg s ∷ head.rest) leg_is in
    out_is ∙ ap (λ more. s ∷ more) on
    ∙ ap (λ xs. s ∷ with_stop place (with_leg (leg_at xs (suc place)) x) (leg_at xs (suc (suc place))) stops) (sym out_is)

-- the legs of a plan with a ride more
pub two-more : (roads : RoadMap) (at i j : ℕ) (ride : Ride) (stops out : List Stop) → HasLegs roads at stops → i ≤ j → j ≤ length stops
    → routed roads at (stops_with ride i j stops) ≡ Some out
    → out ≡ with_stop i (with_leg (leg_at out i) (pickup_of ride)) (leg_at out (suc i))
    (with_stop j (with_leg (leg_at out (suc j)) (dropoff_of ride)) (leg_at out (suc (suc j))) stops)
two-more roads at zero zero ride stops out legs in_order within is =
    let first = route_head roads at (pickup_of ride) (dropoff_of ride ∷ stops) out is in
    let second = route_head roads ride.from (dropoff_of ride) stops first.rest first.on in
    let behind = behind-new roads at ride.to stops second.rest legs second.on in
    let out_is : out ≡ with_leg first.leg (pickup_of ride) ∷ with_leg second.leg (dropoff_of ride) ∷ second.rest
    = first.out_is ∙ ap (λ more. with_leg first.leg (pickup_of ride) ∷ more) second.out_is in
    out_is ∙ ap (λ more. with_leg first.leg (pickup_of ride) ∷ with_leg second.leg (dropoff_of ride) ∷ more) behind
    ∙ ap (λ xs. with_leg (leg_at xs 0) (pickup_of ride) ∷ with_leg (leg_at xs 1) (dropoff_of ride) ∷ relegged 0 (leg_at xs 2) stops) (sym out_is)
two-more roads at zero (suc j) ride [] out legs in_order within is = absurd (omega arith)
two-more roads at zero (suc j) ride (s ∷ stops) out (there, rest) in_order within is =
    let first = route_head roads at (pickup_of ride) (s ∷ insert stops j (dropoff_of ride)) out is in
    let second = route_head roads ride.from s (insert stops j (dropoff_of ride)) first.rest first.on in
    let on = one-more roads s.node j (dropoff_of ride) stops second.rest rest (omega arith) second.on in
    let out_is : out ≡ with_leg first.leg (pickup_of ride) ∷ with_leg second.leg s ∷ second.rest
    = first.out_is ∙ ap (λ more. with_leg first.leg (pickup_of ride) ∷ more) second.out_is in
    out_is ∙ ap (λ more. with_leg first.leg (pickup_of ride) ∷ with_leg second.leg s ∷ more) on
    ∙ ap (λ xs. with_leg (leg_at xs 0) (pickup_of ride) ∷ with_leg (leg_at xs 1) s
    ∷ with_stop j (with_leg (leg_at xs (suc (suc j))) (dropoff_of ride)) (leg_at xs (suc (suc (suc j)))) stops) (sym out_is)
two-more roads at (suc i) zero ride stops out legs in_order within is = absurd (omega arith)
two-more roads at (suc i) (suc j) ride [] out legs in_order within is = absurd (omega arith)
two-more roads at (suc i) (suc j) ride (s ∷ stops) out (there, rest) in_order within is =
    let head = route_head roads at s (stops_with ride i j stops) out is in
    let leg_is : head.leg ≡ s.leg = same_Some head.leg s.leg (sym head.there ∙ there) in
    let on = two-more roads s.node i j ride stops head.rest rest (omega arith) (omega arith) head.on in
    let out_is : out ≡ s ∷ head.rest = head.out_is ∙ ap (λ leg. with_leg leg s ∷ head.rest) leg_is in
    out_is ∙ ap (λ more. s ∷ more) on
    ∙ ap (λ xs. s ∷ with_stop i (with_leg (leg_at xs (suc i)) (pickup_of ride)) (leg_at xs (suc (suc i)))
    (with_stop j (with_leg (leg_at xs (suc (suc j))) (dropoff_of ride)) (leg_at xs (suc (suc (suc j)))) stops)) (sym out_is)

-- setting a leg, as a write of the stop
pub relegged-set : (place leg : ℕ) (stops : List Stop) (d : Stop) → place < length stops
    → slice_set stops place (with_leg leg (get_or stops place d)) ≡ relegged place leg stops
relegged-set place leg [] d h = absurd (omega arith)
relegged-set zero leg (s ∷ stops) d h = refl
relegged-set (suc place) leg (s ∷ stops) d h = ap (λ rest. s ∷ rest) (relegged-set place leg stops d (omega arith))

pub relegged-past : (place leg : ℕ) (stops : List Stop) → length stops ≤ place → relegged place leg stops ≡ stops
relegged-past place leg [] h = refl
relegged-past zero leg (s ∷ stops) h = absurd (omega arith)
relegged-past (suc place) leg (s ∷ stops) h = ap (λ rest. s ∷ rest) (relegged-past place leg stops (omega arith))

pub length-relegged : (place leg : ℕ) (stops : List Stop) → length (relegged place leg stops) ≡ length stops
length-relegged place leg [] = refl
length-relegged zero leg (s ∷ stops) = refl
length-relegged (suc place) leg (s ∷ stops) = ap suc (length-relegged place leg stops)

-- one stop more
pub length-with_stop : (place : ℕ) (stop : Stop) (after : ℕ) (stops : List Stop) → place ≤ length stops
    → length (with_stop place stop after stops) ≡ length stops + 1
length-with_stop place stop after stops h =
    inserted-length (relegged place after stops) place (omega (arith, length-relegged place after stops))
    ∙ ap (λ n. n + 1) (length-relegged place after stops)
  where
    inserted-length : (xs : List Stop) (n : ℕ) → n ≤ length xs → length (insert xs n stop) ≡ length xs + 1
    inserted-length xs zero h = omega arith
    inserted-length [] (suc n) h = absurd (omega arith)
    inserted-length (x ∷ xs) (suc n) h = omega (arith, inserted-length xs n (omega arith))

-- the vehicle that the legs of an offer make is the one with the ride
pub inserts-into : (roads : RoadMap) (v : Vehicle) (ride : Ride) (offer : Offer) (new : Vehicle) → InsertsInto roads v ride offer new
    → with_plan v (v.rides.items ++ ride ∷ [])
    (with_stop offer.i (with_leg offer.joins.to_pickup (pickup_of ride)) offer.joins.after_pickup
    (with_stop offer.j (with_leg offer.joins.to_dropoff (dropoff_of ride)) offer.joins.after_dropoff v.stops.items))
    ≡ new
inserts-into roads v ride offer new h =
    let facts = inserted_facts roads v ride offer.i offer.j new h.inserted_is in
    let stops_are : new.stops.items ≡ facts.out = ap (λ (w : Vehicle). w.stops.items) facts.new_is in
    let legs = two-more roads v.at offer.i offer.j ride v.stops.items facts.out h.lawful.routed.legs h.in_order h.in_range facts.route in
    let joins : offer.joins ≡ record {
      to_pickup = leg_at facts.out offer.i;
      after_pickup = leg_at facts.out (suc offer.i);
      to_dropoff = leg_at facts.out (suc offer.j);
      after_dropoff = leg_at facts.out (suc (suc offer.j));
    }
    = h.joins_are ∙ by_out new facts.out stops_are in
    ap (λ (joins : Joins). with_plan v (v.rides.items ++ ride ∷ [])
    (with_stop offer.i (with_leg joins.to_pickup (pickup_of ride)) joins.after_pickup
    (with_stop offer.j (with_leg joins.to_dropoff (dropoff_of ride)) joins.after_dropoff v.stops.items))) joins
    ∙ ap (with_plan v (v.rides.items ++ ride ∷ [])) (sym legs)
    ∙ sym facts.new_is
  where
    two : (n : ℕ) → n + 2 ≡ suc (suc n)
    two n = omega arith

    by_out : (w : Vehicle) (out : List Stop) → w.stops.items ≡ out
        → joins_of w offer.i offer.j ≡ record {
          to_pickup = leg_at out offer.i;
          after_pickup = leg_at out (suc offer.i);
          to_dropoff = leg_at out (suc offer.j);
          after_dropoff = leg_at out (suc (suc offer.j));
        }
    by_out w out is k = record {
      to_pickup = leg_at (is k) offer.i;
      after_pickup = leg_at (is k) (add-one offer.i k);
      to_dropoff = leg_at (is k) (add-one offer.j k);
      after_dropoff = leg_at (is k) (two offer.j k);
    }
