-- Offers, from the times near a ride and the plan with it.
use Rattle.insertion.proofs.Common.{◌≡◌, ℕ, suc, ◌+◌, ◌<◌, ◌≤◌, ◌⊎◌, inl, inr, Bool, true, false, cond, ◌&&◌, List, [], ◌∷◌, ◌++◌, length, eqb, leb, leb-true, refl, sym, ◌∙◌, ap, subst, arith, add-one, Option, Some, None, option_map, option_and_then, list_all, eqb-true, eq-eqb, and_parts, same_Some, same_or_less, Joins, Offer, Settings, Ride, Stop, Vehicle, RoadMap, travel, HasLegs, IsRouted, loads_fit, keeps, keeps_ride, routed, stops_with, with_plan, inserted, is_open, leg_at, joins_of, cost_of, start_of, offer_of, offer_of_plan, unlegged-routed, length-same, inserted_facts, length-stops_with, routed-with, InsertsInto, Near, NearStop, near_stop, HoldsTimes, IsAsked, leg_before, leg_after, four_legs, to_pickup_of, after_pickup_of, to_dropoff_of, after_dropoff_of, joins_near}
use native.Mathlib.Numerals.{add-two}
use Rattle.insertion.proofs.Joined.{before_place, after_place, before-noted, after-noted, legs_of_two, two-joined-together, two-joined-apart}
use Rattle.model_laws.proofs.FewRides.{few-rides}

-- the legs near the ride are those that the map gives the plan with it
pub joins-law : (roads : RoadMap) (v : Vehicle) (ride : Ride) (near : Near) (i j : ℕ) → HasLegs roads v.at v.stops.items → HoldsTimes roads v ride near
    → i ≤ j → j ≤ length v.stops.items → joins_near near i j ≡ option_map (λ new. joins_of new i j) (inserted roads v ride i j)
joins-law roads v ride near i j legs holds in_order within =
    ap (λ o. four_legs o (after_pickup_of near i j) (to_dropoff_of near i j) (after_dropoff_of near j)) to_pickup
    ∙ ap (λ o. four_legs (before_place roads v.at ride.from v.stops.items i) (after_pickup_of near i j) (to_dropoff_of near i j) o) after_dropoff
    ∙ elim (same_or_less i j in_order) [
      | inl same ↦ together same
      | inr less ↦ apart less
    ]
    ∙ as_joins (routed roads v.at (stops_with ride i j v.stops.items))
  where
    to_pickup : to_pickup_of near i ≡ before_place roads v.at ride.from v.stops.items i
    to_pickup =
        ap (λ o. leg_before o (λ (stop : NearStop). stop.to_from) near.stops.items i) holds.at_from
        ∙ ap (λ stops. leg_before (travel roads v.at ride.from) (λ (stop : NearStop). stop.to_from) stops i) holds.stops
        ∙ before-noted roads v.at ride.from (λ (stop : NearStop). stop.to_from) (near_stop roads ride) v.stops.items i (λ s. refl)

    after_dropoff : after_dropoff_of near j ≡ after_place roads ride.to v.stops.items j
    after_dropoff =
        ap (λ stops. leg_after (λ (stop : NearStop). stop.to_here) stops j) holds.stops
        ∙ after-noted roads ride.to (λ (stop : NearStop). stop.to_here) (near_stop roads ride) v.stops.items j (λ s. refl)

    after_pickup : leg_after (λ (stop : NearStop). stop.from_here) near.stops.items i ≡ after_place roads ride.from v.stops.items i
    after_pickup =
        ap (λ stops. leg_after (λ (stop : NearStop). stop.from_here) stops i) holds.stops
        ∙ after-noted roads ride.from (λ (stop : NearStop). stop.from_here) (near_stop roads ride) v.stops.items i (λ s. refl)

    to_dropoff : leg_before near.at_to (λ (stop : NearStop). stop.to_to) near.stops.items j ≡ before_place roads v.at ride.to v.stops.items j
    to_dropoff =
        ap (λ o. leg_before o (λ (stop : NearStop). stop.to_to) near.stops.items j) holds.at_to
        ∙ ap (λ stops. leg_before (travel roads v.at ride.to) (λ (stop : NearStop). stop.to_to) stops j) holds.stops
        ∙ before-noted roads v.at ride.to (λ (stop : NearStop). stop.to_to) (near_stop roads ride) v.stops.items j (λ s. refl)

    chosen : Bool → Option Joins
    chosen b = four_legs (before_place roads v.at ride.from v.stops.items i)
        (cond b near.direct (leg_after (λ (stop : NearStop). stop.from_here) near.stops.items i))
        (cond b near.direct (leg_before near.at_to (λ (stop : NearStop). stop.to_to) near.stops.items j))
        (after_place roads ride.to v.stops.items j)

    together : i ≡ j → chosen (eqb i j) ≡ option_map (legs_of_two i j) (routed roads v.at (stops_with ride i j v.stops.items))
    together same =
        ap chosen (eq-eqb i j same)
        ∙ ap (λ o. four_legs (before_place roads v.at ride.from v.stops.items i) o o (after_place roads ride.to v.stops.items j)) holds.direct
        ∙ subst (λ k. four_legs (before_place roads v.at ride.from v.stops.items i) (travel roads ride.from ride.to) (travel roads ride.from ride.to)
        (after_place roads ride.to v.stops.items k) ≡ option_map (legs_of_two i k) (routed roads v.at (stops_with ride i k v.stops.items)))
        same (sym (two-joined-together roads v.at i ride v.stops.items legs (omega (arith, in_order, within))))

    differ : i < j → (b : Bool) → eqb i j ≡ b → eqb i j ≡ false
    differ less false is = is
    differ less true is = absurd (omega (arith, less, eqb-true i j is))

    apart : i < j → chosen (eqb i j) ≡ option_map (legs_of_two i j) (routed roads v.at (stops_with ride i j v.stops.items))
    apart less =
        ap chosen (differ less (eqb i j) refl)
        ∙ ap (λ o. four_legs (before_place roads v.at ride.from v.stops.items i) o
        (leg_before near.at_to (λ (stop : NearStop). stop.to_to) near.stops.items j) (after_place roads ride.to v.stops.items j)) after_pickup
        ∙ ap (λ o. four_legs (before_place roads v.at ride.from v.stops.items i) (after_place roads ride.from v.stops.items i) o
        (after_place roads ride.to v.stops.items j)) to_dropoff
        ∙ sym (two-joined-apart roads v.at i j ride v.stops.items legs less within)

    as_joins : (o : Option (List Stop)) → option_map (legs_of_two i j) o
        ≡ option_map (λ new. joins_of new i j) (option_map (with_plan v (v.rides.items ++ ride ∷ [])) o)
    as_joins None = refl
    as_joins (Some out) = ap Some (λ k. record {
      to_pickup = leg_at out i;
      after_pickup = leg_at out (sym (add-one i) k);
      to_dropoff = leg_at out (sym (add-one j) k);
      after_dropoff = leg_at out (sym (add-two j) k);
    })

-- no offer of a vehicle that is not open, or at other places
pub no-places : (roads : RoadMap) (settings : Settings) (v : Vehicle) (ride : Ride) (time i j : ℕ)
    → (is_open v time && leb i j && leb j (length v.stops.items)) ≡ false → None ≡ offer_of roads settings v ride time i j
unfolding offer_of
no-places roads settings v ride time i j h =
    sym (ap (λ b. cond b (option_and_then (offer_of_plan settings v i j time) (inserted roads v ride i j)) None) h)

-- an offer is that of the plan with the ride
pub at-places : (roads : RoadMap) (settings : Settings) (v : Vehicle) (ride : Ride) (time i j : ℕ)
    → (is_open v time && leb i j && leb j (length v.stops.items)) ≡ true
    → option_and_then (offer_of_plan settings v i j time) (inserted roads v ride i j) ≡ offer_of roads settings v ride time i j
unfolding offer_of
at-places roads settings v ride time i j h =
    sym (ap (λ b. cond b (option_and_then (offer_of_plan settings v i j time) (inserted roads v ride i j)) None) h)

-- the places of an offer that may be
pub record ArePlaces (v : Vehicle) (i j : ℕ) : Type 0 where
  pub in_order : i ≤ j
  pub in_range : j ≤ length v.stops.items

pub are-places : (v : Vehicle) (time i j : ℕ) → (is_open v time && leb i j && leb j (length v.stops.items)) ≡ true → ArePlaces v i j
are-places v time i j h =
    let (first, within) = and_parts (is_open v time && leb i j) (leb j (length v.stops.items)) h in
    let (_, in_order) = and_parts (is_open v time) (leb i j) first in
    record { in_order = leb-true i j in_order; in_range = leb-true j (length v.stops.items) within }

-- the plan with a ride has two stops more
pub length-inserted : (roads : RoadMap) (v : Vehicle) (ride : Ride) (i j : ℕ) (new : Vehicle) → ArePlaces v i j → inserted roads v ride i j ≡ Some new
    → length new.stops.items ≡ length v.stops.items + 2
length-inserted roads v ride i j new places is =
    let facts = inserted_facts roads v ride i j new is in
    ap (λ (w : Vehicle). length w.stops.items) facts.new_is
    ∙ length-same (stops_with ride i j v.stops.items) facts.out (unlegged-routed roads v.at (stops_with ride i j v.stops.items) facts.out facts.route)
    ∙ length-stops_with ride i j v.stops.items places.in_order places.in_range

-- a plan of more than 14 stops has no room for a ride more
pub no-room : (roads : RoadMap) (settings : Settings) (v : Vehicle) (ride : Ride) (time i j : ℕ)
    → (is_open v time && leb i j && leb j (length v.stops.items)) ≡ true → 14 < length v.stops.items
    → None ≡ offer_of roads settings v ride time i j
no-room roads settings v ride time i j may many =
    elim (inserted roads v ride i j) as (λ o. inserted roads v ride i j ≡ o → None ≡ option_and_then (offer_of_plan settings v i j time) o) [
      | None ↦ λ _. refl
      | Some new ↦ λ is. sym (over (start_of v settings.lead time) new
          (too_many (length new.stops.items) (omega (arith, many, length-inserted roads v ride i j new (are-places v time i j may) is))))
    ] refl
    ∙ at-places roads settings v ride time i j may
  where
    too_many : (n : ℕ) → 16 < n → leb n 16 ≡ false
    too_many n h = by_cases (leb n 16) refl
      where
        by_cases : (b : Bool) → leb n 16 ≡ b → b ≡ false
        by_cases false is = refl
        by_cases true is = absurd (omega (arith, h, leb-true n 16 is))

    over : (start : ℕ) (new : Vehicle) → leb (length new.stops.items) 16 ≡ false
        → cond {A = Option Offer} (keeps new start settings.dwell) (Some (record { i = i; j = j; cost = cost_of settings v new i start time; start = start; joins = joins_of new i j })) None ≡ None
    over start new long =
        ap (λ b. cond {A = Option Offer} (b && list_all (keeps_ride new start settings.dwell) new.rides.items && loads_fit new)
        (Some (record { i = i; j = j; cost = cost_of settings v new i start time; start = start; joins = joins_of new i j })) None) long

-- no offer where a leg is not there
pub no-legs : (roads : RoadMap) (settings : Settings) (v : Vehicle) (ride : Ride) (near : Near) (time i j : ℕ) → IsAsked roads v ride time settings near
    → (is_open v time && leb i j && leb j (length v.stops.items)) ≡ true → joins_near near i j ≡ None
    → None ≡ offer_of roads settings v ride time i j
no-legs roads settings v ride near time i j asked may none =
    let places = are-places v time i j may in
    let law = joins-law roads v ride near i j asked.lawful.routed.legs asked.near_holds places.in_order places.in_range in
    elim (inserted roads v ride i j) as (λ o. joins_near near i j ≡ option_map (λ new. joins_of new i j) o
    → None ≡ option_and_then (offer_of_plan settings v i j time) o) [
      | None ↦ λ _. refl
      | Some new ↦ λ some. absurd (cc (none, some))
    ] law
    ∙ at-places roads settings v ride time i j may

-- what is asked for goes into a plan with room for it
pub goes-into : (roads : RoadMap) (settings : Settings) (v : Vehicle) (ride : Ride) (near : Near) (time : ℕ) (offer : Offer) (new : Vehicle)
    → IsAsked roads v ride time settings near → ArePlaces v offer.i offer.j → length v.stops.items ≤ 14
    → inserted roads v ride offer.i offer.j ≡ Some new → offer.joins ≡ joins_of new offer.i offer.j → InsertsInto roads v ride offer new
goes-into roads settings v ride near time offer new asked places room is joins = record {
  map_fits = asked.map_fits;
  lawful = asked.lawful;
  ride_fits = asked.ride_fits;
  waits = asked.waits;
  fresh = asked.fresh;
  stops_room = room;
  rides_room = omega (arith, room, few-rides v.rides.items v.stops.items asked.lawful.routed.planned);
  in_order = places.in_order;
  in_range = places.in_range;
  inserted_is = is;
  joins_are = joins;
}

-- the plan with the ride, where all legs are there
pub inserts : (roads : RoadMap) (settings : Settings) (v : Vehicle) (ride : Ride) (near : Near) (time : ℕ) (offer : Offer) → IsAsked roads v ride time settings near
    → (is_open v time && leb offer.i offer.j && leb offer.j (length v.stops.items)) ≡ true → length v.stops.items ≤ 14
    → joins_near near offer.i offer.j ≡ Some offer.joins
    → (new : Vehicle) × InsertsInto roads v ride offer new
inserts roads settings v ride near time offer asked may room some =
    let places = are-places v time offer.i offer.j may in
    let law = joins-law roads v ride near offer.i offer.j asked.lawful.routed.legs asked.near_holds places.in_order places.in_range in
    elim (inserted roads v ride offer.i offer.j) as (λ o. inserted roads v ride offer.i offer.j ≡ o
    → joins_near near offer.i offer.j ≡ option_map (λ new. joins_of new offer.i offer.j) o → (new : Vehicle) × InsertsInto roads v ride offer new) [
      | None ↦ λ _ none. absurd (cc (some, none))
      | Some new ↦ λ is joins. (
        new,
        goes-into roads settings v ride near time offer new asked places room is (same_Some _ _ (sym some ∙ joins)),
      )
    ] refl law

-- the offer of the plan
pub of-plan : (roads : RoadMap) (settings : Settings) (v : Vehicle) (ride : Ride) (time : ℕ) (offer : Offer) (new : Vehicle) → InsertsInto roads v ride offer new
    → (is_open v time && leb offer.i offer.j && leb offer.j (length v.stops.items)) ≡ true
    → offer_of_plan settings v offer.i offer.j time new ≡ offer_of roads settings v ride time offer.i offer.j
of-plan roads settings v ride time offer new h may =
    sym (ap (option_and_then (offer_of_plan settings v offer.i offer.j time)) h.inserted_is)
    ∙ at-places roads settings v ride time offer.i offer.j may

-- a vehicle with the ride is in order
pub new-routed : (roads : RoadMap) (v : Vehicle) (ride : Ride) (offer : Offer) (new : Vehicle) → InsertsInto roads v ride offer new → IsRouted roads new
new-routed roads v ride offer new h =
    routed-with roads v ride offer.i offer.j new h.lawful.routed h.ride_fits h.fresh h.waits h.in_order h.in_range h.inserted_is

-- the offer of a plan, by whether it keeps its promises
pub plan-broken : (settings : Settings) (v : Vehicle) (i j time start : ℕ) (new : Vehicle) → start ≡ start_of v settings.lead time
    → keeps new start settings.dwell ≡ false → None ≡ offer_of_plan settings v i j time new
plan-broken settings v i j time start new starts broken =
    sym (ap (λ b. cond {A = Option Offer} b (Some (record { i = i; j = j; cost = cost_of settings v new i (start_of v settings.lead time) time; start = start_of v settings.lead time; joins = joins_of new i j })) None)
    (ap (λ s. keeps new s settings.dwell) (sym starts) ∙ broken))

pub plan-kept : (settings : Settings) (v : Vehicle) (time cost : ℕ) (offer : Offer) (new : Vehicle) → offer.start ≡ start_of v settings.lead time
    → keeps new offer.start settings.dwell ≡ true → offer.joins ≡ joins_of new offer.i offer.j → cost ≡ cost_of settings v new offer.i offer.start time
    → Some (record offer { cost = cost }) ≡ offer_of_plan settings v offer.i offer.j time new
plan-kept settings v time cost offer new starts kept joins costs =
    ap Some (λ k. record { i = offer.i; j = offer.j; cost = costs k; start = offer.start; joins = joins k })
    ∙ sym (ap (λ b. cond b (Some made) None) kept)
    ∙ ap (λ s. cond {A = Option Offer} (keeps new s settings.dwell)
    (Some (record { i = offer.i; j = offer.j; cost = cost_of settings v new offer.i s time; start = s; joins = joins_of new offer.i offer.j })) None) starts
  where
    made : Offer
    made = record { i = offer.i; j = offer.j; cost = cost_of settings v new offer.i offer.start time; start = offer.start; joins = joins_of new offer.i offer.j }
