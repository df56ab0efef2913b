-- The times near a ride: which legs they are, and that they are short.
use Rattle.slack_tables.proofs.Common.{◌≡◌, ℕ, zero, suc, ◌≤◌, List, [], ◌∷◌, length, refl, sym, ◌∙◌, ap, subst, arith, map, All, Some, None, AllByRecursion, length-map, All-from_recursion, same_Some, Ride, Stop, Vehicle, Settings, RoadMap, IsRoadMap, travel, start_of, travel-le, length-times, Near, NearStop, near_stop, HoldsTimes, IsAsked, leg_before, leg_after, before_place, after_place, before-noted, after-noted, start-le, slack_of, terms_of, IsShort, IsNearStop, IsSearch}
use Rattle.slack_tables.proofs.TableLaws.{are_tables}

-- the legs near a ride are travel times
pub to-pickup : (roads : RoadMap) (v : Vehicle) (ride : Ride) (near : Near) (i : ℕ) → HoldsTimes roads v ride near
    → leg_before near.at_from (λ (stop : NearStop). stop.to_from) near.stops.items i
    ≡ before_place roads v.at ride.from v.stops.items i
to-pickup roads v ride near i holds =
    ap (λ o. leg_before o (λ (stop : NearStop). stop.to_from) near.stops.items i) holds.at_from
    ∙ ap (λ stops. leg_before (travel roads v.at ride.from) (λ (stop : NearStop). stop.to_from) stops i) holds.stops
    ∙ before-noted roads v.at ride.from (λ (stop : NearStop). stop.to_from) (near_stop roads ride) v.stops.items i (λ s. refl)

pub after-pickup : (roads : RoadMap) (v : Vehicle) (ride : Ride) (near : Near) (i : ℕ) → HoldsTimes roads v ride near
    → leg_after (λ (stop : NearStop). stop.from_here) near.stops.items i ≡ after_place roads ride.from v.stops.items i
after-pickup roads v ride near i holds =
    ap (λ stops. leg_after (λ (stop : NearStop). stop.from_here) stops i) holds.stops
    ∙ after-noted roads ride.from (λ (stop : NearStop). stop.from_here) (near_stop roads ride) v.stops.items i (λ s. refl)

pub to-dropoff : (roads : RoadMap) (v : Vehicle) (ride : Ride) (near : Near) (j : ℕ) → HoldsTimes roads v ride near
    → leg_before near.at_to (λ (stop : NearStop). stop.to_to) near.stops.items j ≡ before_place roads v.at ride.to v.stops.items j
to-dropoff roads v ride near j holds =
    ap (λ o. leg_before o (λ (stop : NearStop). stop.to_to) near.stops.items j) holds.at_to
    ∙ ap (λ stops. leg_before (travel roads v.at ride.to) (λ (stop : NearStop). stop.to_to) stops j) holds.stops
    ∙ before-noted roads v.at ride.to (λ (stop : NearStop). stop.to_to) (near_stop roads ride) v.stops.items j (λ s. refl)

pub after-dropoff : (roads : RoadMap) (v : Vehicle) (ride : Ride) (near : Near) (j : ℕ) → HoldsTimes roads v ride near
    → leg_after (λ (stop : NearStop). stop.to_here) near.stops.items j ≡ after_place roads ride.to v.stops.items j
after-dropoff roads v ride near j holds =
    ap (λ stops. leg_after (λ (stop : NearStop). stop.to_here) stops j) holds.stops
    ∙ after-noted roads ride.to (λ (stop : NearStop). stop.to_here) (near_stop roads ride) v.stops.items j (λ s. refl)

-- they are short
pub before-le : (roads : RoadMap) (at node place leg : ℕ) (stops : List Stop) → IsRoadMap roads
    → before_place roads at node stops place ≡ Some leg → leg ≤ 500000000000000
before-le roads at node zero leg stops fits is = travel-le roads at node leg fits is
before-le roads at node (suc place) leg [] fits is = absurd (cc is)
before-le roads at node (suc place) leg (s ∷ stops) fits is = before-le roads s.node node place leg stops fits is

pub after-le : (roads : RoadMap) (node place leg : ℕ) (stops : List Stop) → IsRoadMap roads → after_place roads node stops place
    ≡ Some leg → leg ≤ 500000000000000
after-le roads node place leg [] fits is = let none : 0 ≡ leg = same_Some 0 leg is in omega (arith, none)
after-le roads node zero leg (s ∷ stops) fits is = travel-le roads node s.node leg fits is
after-le roads node (suc place) leg (s ∷ stops) fits is = after-le roads node place leg stops fits is

short : (roads : RoadMap) (x y : ℕ) → IsRoadMap roads → IsShort (travel roads x y)
short roads x y fits = elim (travel roads x y) as (λ o. travel roads x y ≡ o → IsShort o) [
  | None ↦ λ _. tt
  | Some t ↦ λ is. travel-le roads x y t fits is
] refl

near-short : (roads : RoadMap) (ride : Ride) (stops : List Stop) → IsRoadMap roads → AllByRecursion IsNearStop
    (map (near_stop roads ride) stops)
near-short roads ride [] fits = tt
near-short roads ride (s ∷ stops) fits = (
  record {
    to_from = short roads s.node ride.from fits;
    from_here = short roads ride.from s.node fits;
    to_to = short roads s.node ride.to fits;
    to_here = short roads ride.to s.node fits;
  },
  near-short roads ride stops fits,
)

-- what is asked is a search whose numbers are in their ranges
pub is_search : (roads : RoadMap) (settings : Settings) (v : Vehicle) (ride : Ride) (near : Near) (time : ℕ)
    → IsAsked roads v ride time settings near
    → length v.stops.items ≤ 16
    → IsSearch (terms_of v ride (start_of v settings.lead time) time settings)
    (slack_of v (start_of v settings.lead time) settings.dwell) near
is_search roads settings v ride near time asked few =
    let start : ℕ = start_of v settings.lead time in
    let begins = start-le v settings.lead time asked.lawful.routed.ready_limit asked.settings_fit.lead_limit asked.time_limit in
    let holds = asked.near_holds in
    record {
      terms_fit = record {
        start_limit = begins;
        dwell_limit = asked.settings_fit.dwell_limit;
        drive_limit = asked.settings_fit.drive_limit;
        wait_limit = asked.settings_fit.wait_limit;
        latest_limit = asked.ride_fits.latest_limit;
        longest_limit = asked.ride_fits.longest_limit;
        few_seats = asked.ride_fits.seats_limit;
        few_chairs = asked.ride_fits.chairs_limit;
      };
      tables = are_tables roads v start settings.dwell asked.map_fits asked.lawful begins asked.settings_fit.dwell_limit few;
      one_each = ap length holds.stops ∙ length-map v.stops.items (near_stop roads ride) ∙ sym
          (length-times settings.dwell start v.stops.items);
      first_leg = subst IsShort (sym holds.at_from) (short roads v.at ride.from asked.map_fits);
      other_leg = subst IsShort (sym holds.at_to) (short roads v.at ride.to asked.map_fits);
      direct = subst IsShort (sym holds.direct) (short roads ride.from ride.to asked.map_fits);
      legs = subst (All IsNearStop) (sym holds.stops)
          (All-from_recursion IsNearStop (map (near_stop roads ride) v.stops.items)
          (near-short roads ride v.stops.items asked.map_fits));
    }
