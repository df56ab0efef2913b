-- The costs by the tables are those of the offers.
use Rattle.slack_tables.proofs.Common.{◌≡◌, ℕ, ◌+◌, ◌-◌, ◌<◌, ◌≤◌, ◌⊎◌, inl, inr, Bool, true, false, cond, ◌&&◌, length, eqb, leb, le-leb, refl, sym, ◌∙◌, ap, subst, arith, slice_index, Option, Some, None, eqb-true, eq-eqb, and_from, recursion_from_All, same_Some, less_or_same, eqb-less, swap-last, Joins, Offer, Settings, Ride, Vehicle, RoadMap, IsRouted, times_from, times_of, keeps, pickup_of, dropoff_of, is_open, start_of, offer_of, offer_of_plan, travel-le, with_leg, inserts-into, length-times, times-soon, Near, NearStop, IsAsked, leg_before, leg_after, four_legs, joins_near, cost_if_any, no-legs, inserts, of-plan, new-routed, start-le, Terms, PlanSlack, slack_of, terms_of, leave_at, cost_at}
use Rattle.slack_tables.proofs.Delays.{delayed, length-delayed, index-insert, with-two}
use Rattle.slack_tables.proofs.WithRide.{with_ride, arrivals_with, arrivals-two, IsWith}
use Rattle.slack_tables.proofs.Detours.{detour-one, detour-two, leave-le}
use Rattle.slack_tables.proofs.Drives.{index-inserted}
use Rattle.slack_tables.proofs.Judged.{LegsApart, LegsTogether, pickup_time, late_time, dropoff_apart, dropoff_together, delay_at, apart-judged, judged-apart, together-judged, judged-together, legs_there_apart, legs_there_together}
use Rattle.slack_tables.proofs.NearTimes.{to-pickup, after-pickup, to-dropoff, after-dropoff, before-le, after-le, is_search}
use Rattle.slack_tables.proofs.Placed.{placed}

-- four legs that are there
pub record FourLegs (p q r s : Option ℕ) (joins : Joins) : Type 0 where
  pub first : p ≡ Some joins.to_pickup
  pub second : q ≡ Some joins.after_pickup
  pub third : r ≡ Some joins.to_dropoff
  pub fourth : s ≡ Some joins.after_dropoff

four_there : (p q r s : Option ℕ) (joins : Joins) → four_legs p q r s ≡ Some joins → FourLegs p q r s joins
four_there (Some a) (Some b) (Some c) (Some d) joins h =
    let same : record { to_pickup = a; after_pickup = b; to_dropoff = c; after_dropoff = d } ≡ joins = same_Some _ _ h in
    record {
      first = ap (λ (x : Joins). Some x.to_pickup) same;
      second = ap (λ (x : Joins). Some x.after_pickup) same;
      third = ap (λ (x : Joins). Some x.to_dropoff) same;
      fourth = ap (λ (x : Joins). Some x.after_dropoff) same;
    }
four_there None q r s joins h = absurd (cc h)
four_there (Some a) None r s joins h = absurd (cc h)
four_there (Some a) (Some b) None s joins h = absurd (cc h)
four_there (Some a) (Some b) (Some c) None joins h = absurd (cc h)

-- the legs near the ride at two places, and at one
pub legs-apart : (near : Near) (i j : ℕ) (joins : Joins) → i < j → joins_near near i j ≡ Some joins
    → LegsApart near i j joins.to_pickup joins.after_pickup joins.to_dropoff joins.after_dropoff
legs-apart near i j joins in_order some =
    let legs = four_there _ _ _ _ joins some in
    record {
      to_pickup = legs.first;
      after_pickup = sym (ap (λ b. cond b near.direct (leg_after (λ (stop : NearStop). stop.from_here) near.stops.items i))
          (eqb-less i j in_order)) ∙ legs.second;
      to_dropoff = sym (ap (λ b. cond b near.direct (leg_before near.at_to (λ (stop : NearStop). stop.to_to) near.stops.items j))
          (eqb-less i j in_order)) ∙ legs.third;
      after_dropoff = legs.fourth;
    }

pub record SameLegs (near : Near) (i : ℕ) (joins : Joins) : Type 0 where
  pub legs : LegsTogether near i joins.to_pickup joins.to_dropoff joins.after_dropoff
  pub same : joins.after_pickup ≡ joins.to_dropoff

pub legs-together : (near : Near) (i : ℕ) (joins : Joins) → joins_near near i i ≡ Some joins → SameLegs near i joins
legs-together near i joins some =
    let legs = four_there _ _ _ _ joins some in
    let second : near.direct ≡ Some joins.after_pickup
    = sym (ap (λ b. cond b near.direct (leg_after (λ (stop : NearStop). stop.from_here) near.stops.items i)) (eq-eqb i i refl))
    ∙ legs.second in
    let third : near.direct ≡ Some joins.to_dropoff
    = sym (ap (λ b. cond b near.direct (leg_before near.at_to (λ (stop : NearStop). stop.to_to) near.stops.items i)) (eq-eqb i i refl))
    ∙ legs.third in
    record {
      legs = record { to_pickup = legs.first; direct = third; after_dropoff = legs.fourth };
      same = same_Some _ _ (sym second ∙ third);
    }

-- the bound of when the vehicle leaves for a place
leaves-soon : (roads : RoadMap) (settings : Settings) (v : Vehicle) (ride : Ride) (near : Near) (time place : ℕ)
    → IsAsked roads v ride time settings near
    → length v.stops.items ≤ 14
    → leave_at (start_of v settings.lead time) settings.dwell
    (times_of v (start_of v settings.lead time) settings.dwell) place ≤ 10000000000003600
leaves-soon roads settings v ride near time place asked room =
    let start : ℕ = start_of v settings.lead time in
    let begins = start-le v settings.lead time asked.lawful.routed.ready_limit asked.settings_fit.lead_limit asked.time_limit in
    let soon = times-soon v start settings.dwell (roads, asked.map_fits, asked.lawful.routed) begins asked.settings_fit.dwell_limit
    (omega (arith, room)) in
    omega (
      arith,
      asked.settings_fit.dwell_limit,
      leave-le start settings.dwell place 10000000000000000 (times_of v start settings.dwell)
          (omega (arith, begins)) (recursion_from_All (λ t. t ≤ 10000000000000000) (times_of v start settings.dwell) soon),
    )

-- the plan with the drop-off before a later place
pub with-apart : (roads : RoadMap) (settings : Settings) (v : Vehicle) (ride : Ride) (near : Near) (time i j : ℕ) (joins : Joins)
    → IsAsked roads v ride time settings near → length v.stops.items ≤ 14 → i < j → j ≤ length v.stops.items
    → LegsApart near i j joins.to_pickup joins.after_pickup joins.to_dropoff joins.after_dropoff
    → IsRouted roads (with_ride v ride i j joins)
    → (more : ℕ) × IsWith roads v ride i j joins (start_of v settings.lead time) settings.dwell
    (late_time (terms_of v ride (start_of v settings.lead time) time settings)
    (slack_of v (start_of v settings.lead time) settings.dwell) i joins.to_pickup joins.after_pickup)
    (pickup_time (terms_of v ride (start_of v settings.lead time) time settings)
    (slack_of v (start_of v settings.lead time) settings.dwell) i joins.to_pickup)
    more
    (dropoff_apart (terms_of v ride (start_of v settings.lead time) time settings)
    (slack_of v (start_of v settings.lead time) settings.dwell) i j joins.to_pickup joins.after_pickup joins.to_dropoff)
    × (j < length v.stops.items → delay_at (terms_of v ride (start_of v settings.lead time) time settings)
    (slack_of v (start_of v settings.lead time) settings.dwell) j
    (dropoff_apart (terms_of v ride (start_of v settings.lead time) time settings)
    (slack_of v (start_of v settings.lead time) settings.dwell) i j joins.to_pickup joins.after_pickup joins.to_dropoff) joins.after_dropoff
    ≡ late_time (terms_of v ride (start_of v settings.lead time) time settings)
    (slack_of v (start_of v settings.lead time) settings.dwell) i joins.to_pickup joins.after_pickup + more)
with-apart roads settings v ride near time i j joins asked room in_order within legs routed =
    let start : ℕ = start_of v settings.lead time in
    let dwell : ℕ = settings.dwell in
    let times = times_of v start dwell in
    let stops = v.stops.items in
    let a : ℕ = joins.to_pickup in
    let b : ℕ = joins.after_pickup in
    let c : ℕ = joins.to_dropoff in
    let e : ℕ = joins.after_dropoff in
    let many : length times ≡ length stops = length-times dwell start stops in
    let to_p = sym (to-pickup roads v ride near i asked.near_holds) ∙ legs.to_pickup in
    let from_p = sym (after-pickup roads v ride near i asked.near_holds) ∙ legs.after_pickup in
    let to_d = sym (to-dropoff roads v ride near j asked.near_holds) ∙ legs.to_dropoff in
    let from_d = sym (after-dropoff roads v ride near j asked.near_holds) ∙ legs.after_dropoff in
    let leave_i : ℕ = leave_at start dwell times i in
    let leave_j : ℕ = leave_at start dwell times j in
    let late : ℕ = leave_i + a + dwell + b - slice_index times i in
    let more : ℕ = leave_j + c + dwell + e - slice_index times j in
    let around_i : slice_index times i ≤ leave_i + a + b
    = detour-one roads v.at ride.from dwell start i a b stops asked.map_fits asked.lawful.routed.legs
    (omega (arith, in_order, within)) to_p from_p in
    let around_j : j < length stops → slice_index times j ≤ leave_j + c + e
    = λ before. detour-one roads v.at ride.to dwell start j c e stops asked.map_fits asked.lawful.routed.legs before to_d from_d in
    let arrivals = arrivals-two dwell start i j late more (with_leg a (pickup_of ride)) (with_leg c (dropoff_of ride)) b e stops
    (omega (arith, in_order)) within
    (λ before. omega (arith, around_j before))
    (ap (λ n. late + n) (index-insert i j more (leave_j + c) times in_order (omega (arith, within, many))) ∙ back leave_i a dwell b
    (slice_index times i) (omega (arith, around_i))) in (
      more,
      record {
        map_fits = asked.map_fits;
        lawful = asked.lawful;
        fresh = asked.fresh;
        waits = asked.waits;
        new_routed = routed;
        in_order = omega (arith, in_order);
        in_range = within;
        room = room;
        few = omega (
          arith,
          leaves-soon roads settings v ride near time i asked room,
          leaves-soon roads settings v ride near time j asked room,
          asked.settings_fit.dwell_limit,
          before-le roads v.at ride.from i a stops asked.map_fits to_p,
          after-le roads ride.from i b stops asked.map_fits from_p,
          before-le roads v.at ride.to j c stops asked.map_fits to_d,
          after-le roads ride.to j e stops asked.map_fits from_d,
        );
        arrivals = arrivals ∙ ap (λ n. arrivals_with i late (leave_i + a) j more n times) (swap-last leave_j c late);
      },
      λ before. delays leave_j late c dwell e (slice_index times j) (around_j before),
    )
  where
    back : (l a d b t : ℕ) → t ≤ l + a + d + b → l + a + d + b - t + t ≡ l + a + d + b
    back l a d b t h = omega (arith, h)

    delays : (l d c w e t : ℕ) → t ≤ l + c + e → l + d + c + w + e - t ≡ d + (l + c + w + e - t)
    delays l d c w e t h = omega (arith, h)

-- the plan with the drop-off directly behind the pickup
pub with-together : (roads : RoadMap) (settings : Settings) (v : Vehicle) (ride : Ride) (near : Near) (time i : ℕ) (joins : Joins)
    → IsAsked roads v ride time settings near → length v.stops.items ≤ 14 → i ≤ length v.stops.items
    → SameLegs near i joins → IsRouted roads (with_ride v ride i i joins)
    → (more : ℕ) × IsWith roads v ride i i joins (start_of v settings.lead time) settings.dwell 0
    (pickup_time (terms_of v ride (start_of v settings.lead time) time settings)
    (slack_of v (start_of v settings.lead time) settings.dwell) i joins.to_pickup)
    more
    (dropoff_together (terms_of v ride (start_of v settings.lead time) time settings)
    (slack_of v (start_of v settings.lead time) settings.dwell) i joins.to_pickup joins.to_dropoff)
    × (i < length v.stops.items → delay_at (terms_of v ride (start_of v settings.lead time) time settings)
    (slack_of v (start_of v settings.lead time) settings.dwell) i
    (dropoff_together (terms_of v ride (start_of v settings.lead time) time settings)
    (slack_of v (start_of v settings.lead time) settings.dwell) i joins.to_pickup joins.to_dropoff) joins.after_dropoff
    ≡ 0 + more)
with-together roads settings v ride near time i joins asked room within legs routed =
    let start : ℕ = start_of v settings.lead time in
    let dwell : ℕ = settings.dwell in
    let times = times_of v start dwell in
    let stops = v.stops.items in
    let a : ℕ = joins.to_pickup in
    let c : ℕ = joins.to_dropoff in
    let e : ℕ = joins.after_dropoff in
    let many : length times ≡ length stops = length-times dwell start stops in
    let to_p = sym (to-pickup roads v ride near i asked.near_holds) ∙ legs.legs.to_pickup in
    let direct = sym asked.near_holds.direct ∙ legs.legs.direct in
    let from_d = sym (after-dropoff roads v ride near i asked.near_holds) ∙ legs.legs.after_dropoff in
    let leave_i : ℕ = leave_at start dwell times i in
    let more : ℕ = leave_i + a + dwell + c + dwell + e - slice_index times i in
    let around : i < length stops → slice_index times i ≤ leave_i + a + c + e
    = λ before. detour-two roads v.at ride.from ride.to dwell start i a c e stops asked.map_fits asked.lawful.routed.legs before to_p direct from_d in
    let arrivals = arrivals-two dwell start i i 0 more (with_leg a (pickup_of ride))
    (with_leg (a + dwell + c) (dropoff_of ride)) joins.after_pickup e stops (omega arith) within
    (λ before. omega (arith, around before))
    (ap (λ n. 0 + n) (index-inserted (delayed i more times) i (leave_i + (a + dwell + c))
    (omega (arith, within, many, length-delayed i more times)))
    ∙ ap (λ n. n) (regroup leave_i a dwell c) ∙ ap (λ n. leave_i + a + dwell + n) (sym legs.same)) in (
      more,
      record {
        map_fits = asked.map_fits;
        lawful = asked.lawful;
        fresh = asked.fresh;
        waits = asked.waits;
        new_routed = routed;
        in_order = omega arith;
        in_range = within;
        room = room;
        few = omega (
          arith,
          leaves-soon roads settings v ride near time i asked room,
          asked.settings_fit.dwell_limit,
          before-le roads v.at ride.from i a stops asked.map_fits to_p,
          travel-le roads ride.from ride.to c asked.map_fits direct,
          after-le roads ride.to i e stops asked.map_fits from_d,
        );
        arrivals =
            ap (times_from dwell start)
            (with-two i (with_leg a (pickup_of ride)) (with_leg c (dropoff_of ride))
            (with_leg (a + dwell + c) (dropoff_of ride)) joins.after_pickup e stops within refl)
            ∙ arrivals ∙ ap (λ n. arrivals_with i 0 (leave_i + a) i more n times) (joined leave_i a dwell c);
      },
      λ before. plus_zero more,
    )
  where
    regroup : (l a w c : ℕ) → 0 + (l + (a + w + c)) ≡ l + a + w + c
    regroup l a w c = omega arith

    joined : (l a w c : ℕ) → l + (a + w + c) + 0 ≡ l + a + w + c
    joined l a w c = omega arith

    plus_zero : (n : ℕ) → n ≡ 0 + n
    plus_zero n = omega arith

-- a vehicle that is open may take a ride at two places of its plan
pub may-take : (v : Vehicle) (time i j : ℕ) → is_open v time ≡ true → i ≤ j → j ≤ length v.stops.items
    → (is_open v time && leb i j && leb j (length v.stops.items)) ≡ true
may-take v time i j open_now in_order within =
    and_from _ (leb j (length v.stops.items)) (and_from (is_open v time) (leb i j) open_now (le-leb i j in_order))
    (le-leb j (length v.stops.items) within)

-- an open vehicle of few stops that keeps its promises is offered at each pair of places for what the tables say
pub fast-costs : (roads : RoadMap) (settings : Settings) (v : Vehicle) (ride : Ride) (near : Near) (time i j : ℕ)
    → IsAsked roads v ride time settings near
    → is_open v time ≡ true → length v.stops.items ≤ 14 → keeps v (start_of v settings.lead time) settings.dwell ≡ true
    → i ≤ j → j ≤ length v.stops.items
    → cost_if_any (offer_of roads settings v ride time i j)
    ≡ cost_at (terms_of v ride (start_of v settings.lead time) time settings)
    (slack_of v (start_of v settings.lead time) settings.dwell) near i j
fast-costs roads settings v ride near time i j asked open_now room on_time in_order within =
    elim (joins_near near i j) as
    (λ o. joins_near near i j ≡ o → cost_if_any (offer_of roads settings v ride time i j) ≡ cost_at terms slack near i j) [
      | None ↦ λ none. ap cost_if_any (sym (no-legs roads settings v ride near time i j asked may none)) ∙ sym (no_cost none)
      | Some joins ↦ λ some.
          let offer : Offer = record { i = i; j = j; cost = 0; start = start_of v settings.lead time; joins = joins } in
          let (new, h) = inserts roads settings v ride near time offer asked may room some in
          let new_is : with_ride v ride i j joins ≡ new = inserts-into roads v ride offer new h in
          let routed = subst (IsRouted roads) (sym new_is) (new-routed roads v ride offer new h) in
          ap cost_if_any (sym (of-plan roads settings v ride time offer new h may))
          ∙ ap (λ w. cost_if_any (offer_of_plan settings v i j time w)) (sym new_is)
          ∙ elim (less_or_same i j in_order) [
            | inl less ↦ apart joins less some routed
            | inr same ↦ together joins same some routed
          ]
    ] refl
  where
    terms : Terms
    terms = terms_of v ride (start_of v settings.lead time) time settings

    slack : PlanSlack
    slack = slack_of v (start_of v settings.lead time) settings.dwell

    may : (is_open v time && leb i j && leb j (length v.stops.items)) ≡ true
    may = may-take v time i j open_now in_order within

    many : length slack.times ≡ length v.stops.items
    many = length-times settings.dwell (start_of v settings.lead time) v.stops.items

    near_many : length near.stops.items ≡ length slack.times
    near_many = (is_search roads settings v ride near time asked (omega (arith, room))).one_each

    no_cost : joins_near near i j ≡ None → cost_at terms slack near i j ≡ None
    no_cost none = elim (cost_at terms slack near i j) as (λ o. cost_at terms slack near i j ≡ o → o ≡ None) [
      | None ↦ λ _. refl
      | Some cost ↦ λ is. elim (less_or_same i j in_order) [
        | inl less ↦ let (joins, some) = legs_there_apart terms slack near i j cost less near_many
            (omega (arith, within, many)) is in absurd (cc (none, some))
        | inr same ↦ let (joins, some) = legs_there_together terms slack near i j cost same near_many
            (omega (arith, within, many)) is in absurd (cc (none, some))
      ]
    ] refl

    apart : (joins : Joins) → i < j → joins_near near i j ≡ Some joins → IsRouted roads (with_ride v ride i j joins)
        → cost_if_any (offer_of_plan settings v i j time (with_ride v ride i j joins)) ≡ cost_at terms slack near i j
    apart joins less some routed =
        let legs = legs-apart near i j joins less some in
        let (more, w, delays) = with-apart roads settings v ride near time i j joins asked room less within legs routed in
        placed roads settings v ride near time i j joins _ _ more _ _ w delays on_time
        (apart-judged terms slack near i j joins.to_pickup joins.after_pickup joins.to_dropoff joins.after_dropoff less
        (omega (arith, within, many)) legs)
        (λ cost is. judged-apart terms slack near i j joins.to_pickup joins.after_pickup joins.to_dropoff joins.after_dropoff cost less legs is)

    at_one : (joins : Joins) → i ≤ length v.stops.items → joins_near near i i ≡ Some joins → IsRouted roads
        (with_ride v ride i i joins)
        → cost_if_any (offer_of_plan settings v i i time (with_ride v ride i i joins)) ≡ cost_at terms slack near i i
    at_one joins inside some routed =
        let legs = legs-together near i joins some in
        let (more, w, delays) = with-together roads settings v ride near time i joins asked room inside legs routed in
        placed roads settings v ride near time i i joins _ _ more _ _ w delays on_time
        (together-judged terms slack near i joins.to_pickup joins.to_dropoff joins.after_dropoff
        (omega (arith, inside, many)) legs.legs)
        (λ cost is. judged-together terms slack near i joins.to_pickup joins.to_dropoff joins.after_dropoff cost legs.legs is)

    together : (joins : Joins) → i ≡ j → joins_near near i j ≡ Some joins → IsRouted roads (with_ride v ride i j joins)
        → cost_if_any (offer_of_plan settings v i j time (with_ride v ride i j joins)) ≡ cost_at terms slack near i j
    together joins same =
        subst (λ k. joins_near near i k ≡ Some joins → IsRouted roads (with_ride v ride i k joins)
        → cost_if_any (offer_of_plan settings v i k time (with_ride v ride i k joins)) ≡ cost_at terms slack near i k) same
        (at_one joins (omega (arith, in_order, within)))
