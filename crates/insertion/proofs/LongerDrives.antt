-- What a plan with a ride more drives, by the legs into and out of the new stops.
use Rattle.insertion.proofs.Common.{◌≡◌, ℕ, zero, suc, ◌+◌, ◌-◌, ◌*◌, ◌<◌, ◌≤◌, ◌⊎◌, inl, inr, Bool, true, false, cond, ◌&&◌, List, [], ◌∷◌, length, slice_index, eqb, leb, refl, sym, ◌∙◌, ap, subst, arith, Option, Some, None, AllByRecursion, eqb-true, eq-eqb, recursion_from_All, less_if_differs, Joins, Offer, Settings, Ride, Stop, Vehicle, RoadMap, times_from, times_of, drive_of, keeps, pickup_of, dropoff_of, is_open, start_of, leg_at, cost_of, offer_of, offer_of_plan, InsertsInto, with_leg, with_stop, inserts-into, leave_at, stands_more, drives_more, AreShort, IsDrawn}
use Rattle.stop_plans.proofs.Legs.{legs_are_bounded}
use Rattle.insertion.proofs.OfferLaws.{length-inserted, new-routed, of-plan, plan-broken, plan-kept}
use Rattle.insertion.proofs.PlanTimes.{last_time, drive-last}

-- all legs and stands
abbrev way : ℕ → List Stop → ℕ
way dwell [] = 0
way dwell (stop ∷ stops) = stop.leg + dwell + way dwell stops

-- with one stop more
one-way : (dwell j ad : ℕ) (d : Stop) (stops : List Stop) → j ≤ length stops → (length stops ≤ j → ad ≡ 0)
    → way dwell (with_stop j d ad stops) + leg_at stops j ≡ way dwell stops + d.leg + ad + dwell
one-way dwell zero ad d [] within end = let none = end (omega arith) in omega (arith, none)
one-way dwell zero ad d (s ∷ stops) within end = omega arith
one-way dwell (suc j) ad d [] within end = absurd (omega arith)
one-way dwell (suc j) ad d (s ∷ stops) within end =
    let rest = one-way dwell j ad d stops (omega arith) (λ past. end (omega (arith, past))) in omega (arith, rest)

-- with two, directly behind each other and not
two-together : (dwell i ap' ad : ℕ) (p d : Stop) (stops : List Stop) → i ≤ length stops → (length stops ≤ i → ad ≡ 0)
    → way dwell (with_stop i p ap' (with_stop i d ad stops)) + leg_at stops i + d.leg
    ≡ way dwell stops + p.leg + ap' + d.leg + ad + dwell + dwell
two-together dwell zero ap' ad p d [] within end = let none = end (omega arith) in omega (arith, none)
two-together dwell zero ap' ad p d (s ∷ stops) within end = omega arith
two-together dwell (suc i) ap' ad p d [] within end = absurd (omega arith)
two-together dwell (suc i) ap' ad p d (s ∷ stops) within end =
    let rest = two-together dwell i ap' ad p d stops (omega arith) (λ past. end (omega (arith, past))) in omega (arith, rest)

two-apart : (dwell i j ap' ad : ℕ) (p d : Stop) (stops : List Stop) → i < j → j ≤ length stops → (length stops ≤ j → ad ≡ 0)
    → way dwell (with_stop i p ap' (with_stop j d ad stops)) + leg_at stops j + leg_at stops i
    ≡ way dwell stops + p.leg + ap' + d.leg + ad + dwell + dwell
two-apart dwell i zero ap' ad p d stops less within end = absurd (omega arith)
two-apart dwell i (suc j) ap' ad p d [] less within end = absurd (omega arith)
two-apart dwell zero (suc j) ap' ad p d (s ∷ stops) less within end =
    let rest = one-way dwell j ad d stops (omega arith) (λ past. end (omega (arith, past))) in omega (arith, rest)
two-apart dwell (suc i) (suc j) ap' ad p d (s ∷ stops) less within end =
    let rest = two-apart dwell i j ap' ad p d stops (omega arith) (omega arith) (λ past. end (omega (arith, past))) in omega (arith, rest)

-- the last arrival by the way
last-way : (dwell leave : ℕ) (stops : List Stop) → 0 < length stops
    → last_time leave (times_from dwell leave stops) + dwell ≡ leave + way dwell stops
last-way dwell leave [] some = absurd (omega arith)
last-way dwell leave (s ∷ []) some = omega arith
last-way dwell leave (s ∷ t ∷ stops) some =
    let rest = last-way dwell (leave + s.leg + dwell) (t ∷ stops) (omega arith) in omega (arith, rest)

drive-way : (v : Vehicle) (dwell : ℕ) → 0 < length v.stops.items → drive_of v dwell + dwell ≡ way dwell v.stops.items
drive-way v dwell some = omega (arith, drive-last v dwell, last-way dwell 0 v.stops.items some)

-- the arrival at the pickup
index-with : (dwell leave i j ap' ad : ℕ) (p d : Stop) (stops : List Stop) → i ≤ j → j ≤ length stops
    → slice_index (times_from dwell leave (with_stop i p ap' (with_stop j d ad stops))) i ≡ leave_at leave dwell (times_from dwell leave stops) i + p.leg
index-with dwell leave zero j ap' ad p d stops in_order within = refl
index-with dwell leave (suc i) zero ap' ad p d stops in_order within = absurd (omega arith)
index-with dwell leave (suc i) (suc j) ap' ad p d [] in_order within = absurd (omega arith)
index-with dwell leave (suc i) (suc j) ap' ad p d (s ∷ stops) in_order within =
    index-with dwell (leave + s.leg + dwell) i j ap' ad p d stops (omega arith) (omega arith)

-- no leg past the end
leg-past : (stops : List Stop) (place : ℕ) → length stops ≤ place → leg_at stops place ≡ 0
leg-past [] place past = refl
leg-past (s ∷ stops) zero past = absurd (omega arith)
leg-past (s ∷ stops) (suc place) past = leg-past stops place (omega arith)

-- the stops of the plan with the ride
abbrev stops_joined : Ride → Offer → List Stop → List Stop
stops_joined ride offer stops =
    with_stop offer.i (with_leg offer.joins.to_pickup (pickup_of ride)) offer.joins.after_pickup
    (with_stop offer.j (with_leg offer.joins.to_dropoff (dropoff_of ride)) offer.joins.after_dropoff stops)

joined-stops : (roads : RoadMap) (v : Vehicle) (ride : Ride) (offer : Offer) (new : Vehicle) → InsertsInto roads v ride offer new
    → stops_joined ride offer v.stops.items ≡ new.stops.items
joined-stops roads v ride offer new h = ap (λ (w : Vehicle). w.stops.items) (inserts-into roads v ride offer new h)

-- a plan as it was, by its way
old-way : (dwell : ℕ) (stops : List Stop) → last_time 0 (times_from dwell 0 stops) + stands_more dwell stops ≡ way dwell stops + dwell
old-way dwell [] = refl
old-way dwell (s ∷ stops) = let last = last-way dwell 0 (s ∷ stops) (omega arith) in omega (arith, last)

shorter : (legs first second new old : ℕ) → new + first + second ≡ old + legs → legs - first - second ≡ new - old
shorter legs first second new old e = omega (arith, e)

-- a plan with a ride more drives so much more
pub drives-more : (roads : RoadMap) (v : Vehicle) (ride : Ride) (offer : Offer) (new : Vehicle) (dwell : ℕ) → InsertsInto roads v ride offer new
    → drives_more dwell v.stops.items offer.i offer.j offer.joins ≡ drive_of new dwell - drive_of v dwell
drives-more roads v ride offer new dwell h =
    elim (eqb offer.i offer.j) as (λ b. eqb offer.i offer.j ≡ b
    → offer.joins.to_pickup + offer.joins.after_pickup + offer.joins.to_dropoff + offer.joins.after_dropoff + stands_more dwell v.stops.items
    - leg_at v.stops.items offer.j - cond b offer.joins.to_dropoff (leg_at v.stops.items offer.i) ≡ drive_of new dwell - drive_of v dwell) [
      | true ↦ λ is. shorter _ _ _ _ _ (by_way offer.joins.to_dropoff (together (eqb-true offer.i offer.j is)))
      | false ↦ λ is. shorter _ _ _ _ _ (by_way (leg_at v.stops.items offer.i) (apart is))
    ] refl
  where
    joined : stops_joined ride offer v.stops.items ≡ new.stops.items
    joined = joined-stops roads v ride offer new h

    end : length v.stops.items ≤ offer.j → offer.joins.after_dropoff ≡ 0
    end past = ap (λ (joins : Joins). joins.after_dropoff) h.joins_are ∙ leg-past new.stops.items (offer.j + 2)
        (omega (arith, past, length-inserted roads v ride offer.i offer.j new (record { in_order = h.in_order; in_range = h.in_range }) h.inserted_is))

    together : offer.i ≡ offer.j
        → way dwell (stops_joined ride offer v.stops.items) + leg_at v.stops.items offer.j + offer.joins.to_dropoff
        ≡ way dwell v.stops.items + offer.joins.to_pickup + offer.joins.after_pickup + offer.joins.to_dropoff + offer.joins.after_dropoff + dwell + dwell
    together is =
        subst (λ i. way dwell (with_stop i (with_leg offer.joins.to_pickup (pickup_of ride)) offer.joins.after_pickup
        (with_stop offer.j (with_leg offer.joins.to_dropoff (dropoff_of ride)) offer.joins.after_dropoff v.stops.items))
        + leg_at v.stops.items offer.j + offer.joins.to_dropoff
        ≡ way dwell v.stops.items + offer.joins.to_pickup + offer.joins.after_pickup + offer.joins.to_dropoff + offer.joins.after_dropoff + dwell + dwell)
        (sym is) (two-together dwell offer.j offer.joins.after_pickup offer.joins.after_dropoff (with_leg offer.joins.to_pickup (pickup_of ride))
        (with_leg offer.joins.to_dropoff (dropoff_of ride)) v.stops.items h.in_range end)

    apart : eqb offer.i offer.j ≡ false
        → way dwell (stops_joined ride offer v.stops.items) + leg_at v.stops.items offer.j + leg_at v.stops.items offer.i
        ≡ way dwell v.stops.items + offer.joins.to_pickup + offer.joins.after_pickup + offer.joins.to_dropoff + offer.joins.after_dropoff + dwell + dwell
    apart differ =
        two-apart dwell offer.i offer.j offer.joins.after_pickup offer.joins.after_dropoff (with_leg offer.joins.to_pickup (pickup_of ride))
        (with_leg offer.joins.to_dropoff (dropoff_of ride)) v.stops.items (less_if_differs offer.i offer.j h.in_order differ) h.in_range end

    by_way : (replaced : ℕ) → way dwell (stops_joined ride offer v.stops.items) + leg_at v.stops.items offer.j + replaced
        ≡ way dwell v.stops.items + offer.joins.to_pickup + offer.joins.after_pickup + offer.joins.to_dropoff + offer.joins.after_dropoff + dwell + dwell
        → drive_of new dwell + leg_at v.stops.items offer.j + replaced
        ≡ drive_of v dwell + (offer.joins.to_pickup + offer.joins.after_pickup + offer.joins.to_dropoff + offer.joins.after_dropoff + stands_more dwell v.stops.items)
    by_way replaced is =
        let many = length-inserted roads v ride offer.i offer.j new (record { in_order = h.in_order; in_range = h.in_range }) h.inserted_is in
        let with_ride = drive-way new dwell (omega (arith, many)) in
        let old = old-way dwell v.stops.items in
        let driven = drive-last v dwell in
        let same : way dwell (stops_joined ride offer v.stops.items) ≡ way dwell new.stops.items = ap (way dwell) joined in
        omega (arith, is, with_ride, old, driven, same)

-- the arrival at the pickup
pub pickup-index : (roads : RoadMap) (v : Vehicle) (ride : Ride) (offer : Offer) (new : Vehicle) (start dwell : ℕ) → InsertsInto roads v ride offer new
    → leave_at start dwell (times_of v start dwell) offer.i + offer.joins.to_pickup ≡ slice_index (times_of new start dwell) offer.i
pickup-index roads v ride offer new start dwell h =
    sym (index-with dwell start offer.i offer.j offer.joins.after_pickup offer.joins.after_dropoff (with_leg offer.joins.to_pickup (pickup_of ride))
    (with_leg offer.joins.to_dropoff (dropoff_of ride)) v.stops.items h.in_order h.in_range)
    ∙ ap (λ stops. slice_index (times_from dwell start stops) offer.i) (joined-stops roads v ride offer new h)

-- the cost
pub cost-drawn : (roads : RoadMap) (settings : Settings) (v : Vehicle) (ride : Ride) (offer : Offer) (new : Vehicle) (start time : ℕ)
    → InsertsInto roads v ride offer new
    → settings.drive * drives_more settings.dwell v.stops.items offer.i offer.j offer.joins
    + settings.wait * (leave_at start settings.dwell (times_of v start settings.dwell) offer.i + offer.joins.to_pickup - time)
    ≡ cost_of settings v new offer.i start time
cost-drawn roads settings v ride offer new start time h =
    ap (λ n. settings.drive * n + settings.wait * (leave_at start settings.dwell (times_of v start settings.dwell) offer.i + offer.joins.to_pickup - time))
    (drives-more roads v ride offer new settings.dwell h)
    ∙ ap (λ n. settings.drive * (drive_of new settings.dwell - drive_of v settings.dwell) + settings.wait * (n - time))
    (pickup-index roads v ride offer new start settings.dwell h)

-- the legs are short
leg-le : (most : ℕ) (stops : List Stop) (place : ℕ) → AllByRecursion (λ (s : Stop). s.leg ≤ most) stops → leg_at stops place ≤ most
leg-le most [] place h = omega arith
leg-le most (s ∷ stops) zero (first, rest) = first
leg-le most (s ∷ stops) (suc place) (first, rest) = leg-le most stops place rest

pub are_short : (roads : RoadMap) (v : Vehicle) (ride : Ride) (offer : Offer) (new : Vehicle) → InsertsInto roads v ride offer new → AreShort offer.joins
are_short roads v ride offer new h = subst AreShort (sym h.joins_are) (record {
  to_pickup = short offer.i;
  after_pickup = short (offer.i + 1);
  to_dropoff = short (offer.j + 1);
  after_dropoff = short (offer.j + 2);
})
  where
    short : (place : ℕ) → leg_at new.stops.items place ≤ 500000000000000
    short place = leg-le 500000000000000 new.stops.items place
        (recursion_from_All _ new.stops.items (legs_are_bounded new (roads, h.map_fits, new-routed roads v ride offer new h)))

-- an offer that is drawn for the plan with the ride
pub is_drawn : (roads : RoadMap) (settings : Settings) (v : Vehicle) (ride : Ride) (time : ℕ) (offer drawn : Offer) (new : Vehicle)
    → InsertsInto roads v ride offer new → (is_open v time && leb offer.i offer.j && leb offer.j (length v.stops.items)) ≡ true
    → offer.start ≡ start_of v settings.lead time → offer.start ≤ 1000003600
    → drawn ≡ record offer { cost = cost_of settings v new offer.i offer.start time }
    → IsDrawn roads v ride settings.dwell drawn (offer_of roads settings v ride time offer.i offer.j)
is_drawn roads settings v ride time offer drawn new h may starts limit is =
    subst (λ (d : Offer). IsDrawn roads v ride settings.dwell d (offer_of roads settings v ride time offer.i offer.j)) (sym is) (record {
      new = new;
      inserts = record {
        map_fits = h.map_fits;
        lawful = h.lawful;
        ride_fits = h.ride_fits;
        waits = h.waits;
        fresh = h.fresh;
        stops_room = h.stops_room;
        rides_room = h.rides_room;
        in_order = h.in_order;
        in_range = h.in_range;
        inserted_is = h.inserted_is;
        joins_are = h.joins_are;
      };
      start_limit = limit;
      offer_is = sym (of-plan roads settings v ride time offer new h may) ∙ sym (by_plan (keeps new offer.start settings.dwell) refl);
    })
  where
    by_plan : (b : Bool) → keeps new offer.start settings.dwell ≡ b
        → cond {A = Option Offer} (keeps new offer.start settings.dwell) (Some (record offer { cost = cost_of settings v new offer.i offer.start time })) None
        ≡ offer_of_plan settings v offer.i offer.j time new
    by_plan true kept =
        ap (λ b. cond {A = Option Offer} b (Some (record offer { cost = cost_of settings v new offer.i offer.start time })) None) kept
        ∙ plan-kept settings v time (cost_of settings v new offer.i offer.start time) offer new starts kept h.joins_are refl
    by_plan false broken =
        ap (λ b. cond {A = Option Offer} b (Some (record offer { cost = cost_of settings v new offer.i offer.start time })) None) broken
        ∙ plan-broken settings v offer.i offer.j time offer.start new starts broken
