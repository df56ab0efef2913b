-- No offer: where a vehicle is not open, where its plan is full, and where the pickup would be too late already.
use Rattle.insertion.proofs.Common.{◌≡◌, ℕ, zero, suc, ◌+◌, ◌<◌, ◌≤◌, Bool, true, false, ◌&&◌, List, [], ◌∷◌, ◌++◌, length, eqb, leb, leb-true, le-leb, refl, sym, ◌∙◌, ap, subst, arith, map, zip, Option, Some, None, option_map, option_and_then, insert, IfSome, ◌==◌, AllByRecursion, list_all, eq-eqb, and_parts, same_Some, Settings, Ride, Stop, Vehicle, RoadMap, IsRoadMap, travel, lesser, least_of, HasLegs, loads_fit, times_from, times_of, is_pickup_at, is_dropoff_at, keeps_visits, keeps_ride, keeps, routed, pickup_of, dropoff_of, stops_with, with_plan, inserted, is_open, start_of, offer_of, offer_of_plan, price, filter-kept, filter-skipped, inserted_facts, plan-fresh, with_leg, route_head, visits_along, Near, NearStop, plan_of, leave_at, pickup_at, is_by, near_stop, HoldsTimes, IsAsked, leg_before, to_pickup_of, after_pickup_of, to_dropoff_of, after_dropoff_of, four_legs, cost_if_any, least_with_pickup}
use Rattle.model_laws.proofs.TravelTimes.{travel-le}
use Rattle.insertion.proofs.Joined.{before_place, before-noted}
use Rattle.insertion.proofs.OfferLaws.{ArePlaces, are-places, at-places, no-places, no-room, no-legs, plan-broken}
use Rattle.insertion.proofs.LeastOffers.{price-least}

-- the leg to a pickup is a travel time
pub to-pickup : (roads : RoadMap) (v : Vehicle) (ride : Ride) (near : Near) (i : ℕ) → HoldsTimes roads v ride near
    → to_pickup_of near i ≡ before_place roads v.at ride.from v.stops.items i
to-pickup roads v ride near i holds =
    ap (λ o. leg_before o (λ (stop : NearStop). stop.to_from) near.stops.items i) holds.at_from
    ∙ ap (λ stops. leg_before (travel roads v.at ride.from) (λ (stop : NearStop). stop.to_from) stops i) holds.stops
    ∙ before-noted roads v.at ride.from (λ (stop : NearStop). stop.to_from) (near_stop roads ride) v.stops.items i (λ s. refl)

-- and it is short
before-short : (roads : RoadMap) (at node place : ℕ) (stops : List Stop) → IsRoadMap roads
    → IfSome (before_place roads at node stops place) (λ seconds. seconds ≤ 500000000000000)
before-short roads at node zero stops fits = elim (travel roads at node) as (λ o. travel roads at node ≡ o → IfSome o (λ seconds. seconds ≤ 500000000000000)) [
  | None ↦ λ _. tt
  | Some t ↦ λ is. travel-le roads at node t fits is
] refl
before-short roads at node (suc place) [] fits = tt
before-short roads at node (suc place) (s ∷ stops) fits = before-short roads s.node node place stops fits

pub pickup-short : (roads : RoadMap) (v : Vehicle) (ride : Ride) (near : Near) (i : ℕ) → IsRoadMap roads → HoldsTimes roads v ride near
    → IfSome (to_pickup_of near i) (λ seconds. seconds ≤ 500000000000000)
pickup-short roads v ride near i fits holds =
    subst (λ o. IfSome o (λ seconds. seconds ≤ 500000000000000)) (sym (to-pickup roads v ride near i holds))
    (before-short roads v.at ride.from i v.stops.items fits)

-- visits that begin at a time
record BeginsAt (time : ℕ) (visits : List (Stop × ℕ)) : Type 0 where
  stop : Stop
  rest : List (Stop × ℕ)
  visits_are : visits ≡ (stop, time) ∷ rest

-- the visits of a ride that is put into a plan begin with its pickup, which does not depend on where its drop-off is put
begins_at : (roads : RoadMap) (at dwell leave i j leg : ℕ) (ride : Ride) (stops out : List Stop) → HasLegs roads at stops
    → AllByRecursion (λ (s : Stop). eqb s.ride ride.id ≡ false) stops → i ≤ j → j ≤ length stops
    → before_place roads at ride.from stops i ≡ Some leg → routed roads at (stops_with ride i j stops) ≡ Some out
    → BeginsAt (leave_at leave dwell (times_from dwell leave stops) i + leg) (visits_along ride.id out (times_from dwell leave out))
begins_at roads at dwell leave zero j leg ride stops out legs others in_order within before is =
    let head = route_head roads at (pickup_of ride) (insert stops j (dropoff_of ride)) out is in
    let leg_is : head.leg ≡ leg = same_Some head.leg leg (sym head.there ∙ before) in
    let out_is : out ≡ with_leg leg (pickup_of ride) ∷ head.rest
    = head.out_is ∙ ap (λ n. with_leg n (pickup_of ride) ∷ head.rest) leg_is in
    record {
      stop = with_leg leg (pickup_of ride);
      rest = visits_along ride.id head.rest (times_from dwell (leave + leg + dwell) head.rest);
      visits_are = ap (λ xs. visits_along ride.id xs (times_from dwell leave xs)) out_is
          ∙ filter-kept (λ (visit : Stop × ℕ). visit.0.ride == ride.id) (with_leg leg (pickup_of ride), leave + leg)
          (zip head.rest (times_from dwell (leave + leg + dwell) head.rest)) (eq-eqb ride.id ride.id refl);
    }
begins_at roads at dwell leave (suc i) zero leg ride stops out legs others in_order within before is = absurd (omega arith)
begins_at roads at dwell leave (suc i) (suc j) leg ride [] out legs others in_order within before is = absurd (omega arith)
begins_at roads at dwell leave (suc i) (suc j) leg ride (s ∷ stops) out (there, rest) (other, others) in_order within before is =
    let head = route_head roads at s (stops_with ride i j stops) out is in
    let leg_is : head.leg ≡ s.leg = same_Some head.leg s.leg (sym head.there ∙ there) in
    let out_is : out ≡ s ∷ head.rest = head.out_is ∙ ap (λ n. with_leg n s ∷ head.rest) leg_is in
    let later = begins_at roads s.node dwell (leave + s.leg + dwell) i j leg ride stops head.rest rest others (omega arith) (omega arith) before head.on in
    record {
      stop = later.stop;
      rest = later.rest;
      visits_are = ap (λ xs. visits_along ride.id xs (times_from dwell leave xs)) out_is
          ∙ filter-skipped (λ (visit : Stop × ℕ). visit.0.ride == ride.id) (s, leave + s.leg)
          (zip head.rest (times_from dwell (leave + s.leg + dwell) head.rest)) other
          ∙ later.visits_are;
    }

-- a pickup that is kept is in time
in_time : (ride : Ride) (stop : Stop) (time : ℕ) (rest : List (Stop × ℕ)) → keeps_visits ride None ((stop, time) ∷ rest) ≡ true → time ≤ ride.latest
in_time ride stop time [] kept = absurd (cc kept)
in_time ride stop time (d ∷ []) kept =
    let (three, _) = and_parts (is_pickup_at ride.from stop && is_dropoff_at ride.to d.0 && leb time ride.latest) (leb d.1 (time + ride.longest)) kept in
    let (_, soon) = and_parts (is_pickup_at ride.from stop && is_dropoff_at ride.to d.0) (leb time ride.latest) three in
    leb-true time ride.latest soon
in_time ride stop time (d ∷ e ∷ rest) kept = absurd (cc kept)

-- the last of a list passes where all do
last-passes : (test : Ride → Bool) (rides : List Ride) (ride : Ride) → list_all test (rides ++ ride ∷ []) ≡ true → test ride ≡ true
last-passes test [] ride all = (and_parts (test ride) true all).0
last-passes test (r ∷ rides) ride all = last-passes test rides ride (and_parts (test r) (list_all test (rides ++ ride ∷ [])) all).1

-- the pickup of a ride in a plan that keeps its promises is in time
pub kept-in-time : (roads : RoadMap) (v : Vehicle) (ride : Ride) (start dwell i j leg : ℕ) (new : Vehicle) → HasLegs roads v.at v.stops.items
    → AllByRecursion (λ (s : Stop). eqb s.ride ride.id ≡ false) v.stops.items → ride.picked ≡ None → i ≤ j → j ≤ length v.stops.items
    → before_place roads v.at ride.from v.stops.items i ≡ Some leg → inserted roads v ride i j ≡ Some new → keeps new start dwell ≡ true
    → leave_at start dwell (times_of v start dwell) i + leg ≤ ride.latest
kept-in-time roads v ride start dwell i j leg new legs others waits in_order within before is kept =
    let facts = inserted_facts roads v ride i j new is in
    let made : Vehicle = with_plan v (v.rides.items ++ ride ∷ []) facts.out in
    let keeps_made : keeps made start dwell ≡ true = subst (λ w. keeps w start dwell ≡ true) facts.new_is kept in
    let (two, _) = and_parts (leb (length facts.out) 16 && list_all (keeps_ride made start dwell) (v.rides.items ++ ride ∷ [])) (loads_fit made) keeps_made in
    let (_, each) = and_parts (leb (length facts.out) 16) (list_all (keeps_ride made start dwell) (v.rides.items ++ ride ∷ [])) two in
    let own : keeps_ride made start dwell ride ≡ true = last-passes (keeps_ride made start dwell) v.rides.items ride each in
    let visits = begins_at roads v.at dwell start i j leg ride v.stops.items facts.out legs others in_order within before facts.route in
    in_time ride visits.stop (leave_at start dwell (times_of v start dwell) i + leg) visits.rest
    (subst (λ xs. keeps_visits ride None xs ≡ true) visits.visits_are
    (subst (λ o. keeps_visits ride o (visits_along ride.id facts.out (times_from dwell start facts.out)) ≡ true) waits own))

-- no offer with the pickup at a place where it would be too late, or to which there is no way
pub late-pickup : (roads : RoadMap) (settings : Settings) (v : Vehicle) (ride : Ride) (near : Near) (time i j : ℕ) → IsAsked roads v ride time settings near
    → is_by ride.latest (pickup_at near settings.dwell (plan_of v time settings) i) ≡ false
    → None ≡ offer_of roads settings v ride time i j
late-pickup roads settings v ride near time i j asked late =
    elim (is_open v time && leb i j && leb j (length v.stops.items))
    as (λ b. (is_open v time && leb i j && leb j (length v.stops.items)) ≡ b → None ≡ offer_of roads settings v ride time i j) [
      | false ↦ λ may. no-places roads settings v ride time i j may
      | true ↦ λ may. at_places may
    ] refl
  where
    start : ℕ
    start = start_of v settings.lead time

    not_kept : (leg : ℕ) (new : Vehicle) → ArePlaces v i j → before_place roads v.at ride.from v.stops.items i ≡ Some leg
        → leb (leave_at (start_of v settings.lead time) settings.dwell (times_of v (start_of v settings.lead time) settings.dwell) i + leg) ride.latest ≡ false
        → inserted roads v ride i j ≡ Some new → (b : Bool) → keeps new (start_of v settings.lead time) settings.dwell ≡ b → b ≡ false
    not_kept leg new places before too_late is false kept = refl
    not_kept leg new places before too_late is true kept =
        let soon = kept-in-time roads v ride (start_of v settings.lead time) settings.dwell i j leg new asked.lawful.routed.legs
        (plan-fresh v.rides.items v.stops.items ride.id asked.lawful.routed.planned asked.fresh) asked.waits places.in_order places.in_range before is kept in
        sym (le-leb _ ride.latest soon) ∙ too_late

    at_places : (is_open v time && leb i j && leb j (length v.stops.items)) ≡ true → None ≡ offer_of roads settings v ride time i j
    at_places may =
        elim (to_pickup_of near i) as (λ o. to_pickup_of near i ≡ o
        → is_by ride.latest (option_map (λ leg. leave_at (start_of v settings.lead time) settings.dwell (times_of v (start_of v settings.lead time) settings.dwell) i + leg) o) ≡ false
        → None ≡ offer_of roads settings v ride time i j) [
          | None ↦ λ none _. no-legs roads settings v ride near time i j asked may
              (ap (λ o. four_legs o (after_pickup_of near i j) (to_dropoff_of near i j) (after_dropoff_of near j)) none)
          | Some leg ↦ λ there too_late.
              elim (inserted roads v ride i j) as (λ o. inserted roads v ride i j ≡ o → None ≡ option_and_then (offer_of_plan settings v i j time) o) [
                | None ↦ λ _. refl
                | Some new ↦ λ is. plan-broken settings v i j time (start_of v settings.lead time) new refl
                    (not_kept leg new (are-places v time i j may) (sym (to-pickup roads v ride near i asked.near_holds) ∙ there) too_late is
                    (keeps new (start_of v settings.lead time) settings.dwell) refl)
              ] refl
              ∙ at-places roads settings v ride time i j may
        ] refl late

-- no least cost where no place has an offer
none-least : (f : ℕ → Option ℕ) (places : List ℕ) → ((k : ℕ) → None ≡ f k) → None ≡ least_of (map f places)
none-least f [] none = refl
none-least f (k ∷ places) none = none-least f places none ∙ ap (λ o. lesser o (least_of (map f places))) (none k)

pub no-least : (roads : RoadMap) (settings : Settings) (v : Vehicle) (ride : Ride) (time i j : ℕ)
    → ((k : ℕ) → None ≡ offer_of roads settings v ride time i k) → None ≡ least_with_pickup roads settings v ride time i j
no-least roads settings v ride time i j none =
    none-least (λ k. cost_if_any (offer_of roads settings v ride time i k)) _ (λ k. ap cost_if_any (none k))

pub no-price : (roads : RoadMap) (settings : Settings) (v : Vehicle) (ride : Ride) (time : ℕ)
    → ((i j : ℕ) → None ≡ offer_of roads settings v ride time i j) → None ≡ price roads settings v ride time
no-price roads settings v ride time none =
    none-least (λ k. least_with_pickup roads settings v ride time k k) _ (λ k. no-least roads settings v ride time k k (none k))
    ∙ price-least roads settings v ride time

-- no offer of a vehicle that is not open, nor of one whose plan is full
pub not-open : (roads : RoadMap) (settings : Settings) (v : Vehicle) (ride : Ride) (time i j : ℕ) → is_open v time ≡ false
    → None ≡ offer_of roads settings v ride time i j
not-open roads settings v ride time i j closed =
    no-places roads settings v ride time i j (ap (λ b. b && leb i j && leb j (length v.stops.items)) closed)

pub full : (roads : RoadMap) (settings : Settings) (v : Vehicle) (ride : Ride) (time i j : ℕ) → 14 < length v.stops.items
    → None ≡ offer_of roads settings v ride time i j
full roads settings v ride time i j many =
    elim (is_open v time && leb i j && leb j (length v.stops.items))
    as (λ b. (is_open v time && leb i j && leb j (length v.stops.items)) ≡ b → None ≡ offer_of roads settings v ride time i j) [
      | false ↦ λ may. no-places roads settings v ride time i j may
      | true ↦ λ may. no-room roads settings v ride time i j may many
    ] refl
