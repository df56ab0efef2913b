-- The offer at a pair of places costs what the tables say.
use Rattle.slack_tables.proofs.Common.{◌≡◌, ℕ, ◌+◌, ◌-◌, ◌*◌, ◌<◌, ◌≤◌, ◌⊎◌, inl, inr, Bool, true, false, not, cond, length, eqb, refl, sym, ◌∙◌, ap, subst, arith, slice_index, Some, None, list_all, eqb-true, eq-eqb, and_parts, less_or_same, Joins, Settings, Ride, Vehicle, RoadMap, loads_fit, times_of, drive_of, keeps, start_of, joins_of, offer_of_plan, range_passes, passes_range, breaks_along, length-times, keeps-vehicle, Near, cost_if_any, Terms, PlanSlack, load_at, slack_of, terms_of, last_time, has_room, cost_of, cost_at}
use Rattle.ride_model.specs.Offers.{cost_of as plan_cost}
use Rattle.slack_tables.proofs.WithRide.{with_ride, arrivals_with, IsWith, Fits, kept_fits, fits_kept}
use Rattle.slack_tables.proofs.TableLaws.{room-is, load-is}
use Rattle.slack_tables.proofs.Drives.{drive-last, last-before, last-at-end, pickup-index}
use Rattle.slack_tables.proofs.Judged.{Judged, seconds_added}

-- a plan that keeps its promises keeps the limits of its rides
pub limits-kept : (roads : RoadMap) (v : Vehicle) (ride : Ride) (i j : ℕ) (joins : Joins) (start dwell late pickup more dropoff : ℕ)
    → IsWith roads v ride i j joins start dwell late pickup more dropoff → keeps v start dwell ≡ true
    → list_all (λ (r : Ride). not (breaks_along v.stops.items (times_of v start dwell) r)) v.rides.items ≡ true
limits-kept roads v ride i j joins start dwell late pickup more dropoff w kept =
    (and_parts _ (loads_fit v) (keeps-vehicle v start dwell (roads, w.map_fits, w.lawful.routed) (omega (arith, w.room)) ∙ kept)).0

-- what fits is judged so, and what is judged so fits
pub fits_judged : (roads : RoadMap) (settings : Settings) (v : Vehicle) (ride : Ride) (time i j : ℕ) (joins : Joins)
    (start late pickup more dropoff delay : ℕ)
    → IsWith roads v ride i j joins start settings.dwell late pickup more dropoff → (j < length v.stops.items → delay ≡ late + more)
    → Fits v ride i j start settings.dwell late pickup more dropoff
    → Judged (terms_of v ride start time settings) (slack_of v start settings.dwell) i j pickup late dropoff delay
fits_judged roads settings v ride time i j joins start late pickup more dropoff delay w delays fits =
    let dwell : ℕ = settings.dwell in
    let slack = slack_of v start dwell in
    let terms = terms_of v ride start time settings in
    let many : length (times_of v start dwell) ≡ length v.stops.items = length-times dwell start v.stops.items in
    record {
      room = passes_range (has_room terms) (load_at slack) i (j + 1 - i) (λ p low high.
          ap (has_room terms) (load-is v start dwell p (omega (arith, high, w.in_range, w.in_order))) ∙ fits.loads p low
          (omega (arith, high, w.in_order)));
      in_time = fits.in_time;
      not_late = subst (λ n. late ≤ n)
          (sym (room-is v start dwell i i (omega arith) (omega (arith, w.in_order, w.in_range)))) fits.rooms.first;
      short = fits.short;
      behind = λ before.
          let here : j < length v.stops.items = omega (arith, before, many) in (
            omega (arith, delays here, fits.rooms.both here, room-is v start dwell i j w.in_order w.in_range),
            omega (arith, delays here, fits.rooms.second here, room-is v start dwell j j (omega arith) w.in_range),
          );
    }

pub judged_fits : (roads : RoadMap) (settings : Settings) (v : Vehicle) (ride : Ride) (time i j : ℕ) (joins : Joins)
    (start late pickup more dropoff delay : ℕ)
    → IsWith roads v ride i j joins start settings.dwell late pickup more dropoff → (j < length v.stops.items → delay ≡ late + more)
    → keeps v start settings.dwell ≡ true
    → Judged (terms_of v ride start time settings) (slack_of v start settings.dwell) i j pickup late dropoff delay
    → Fits v ride i j start settings.dwell late pickup more dropoff
judged_fits roads settings v ride time i j joins start late pickup more dropoff delay w delays kept judged =
    let dwell : ℕ = settings.dwell in
    let slack = slack_of v start dwell in
    let terms = terms_of v ride start time settings in
    let many : length (times_of v start dwell) ≡ length v.stops.items = length-times dwell start v.stops.items in
    record {
      old = limits-kept roads v ride i j joins start dwell late pickup more dropoff w kept;
      rooms = record {
        first = subst (λ n. late ≤ n)
            (room-is v start dwell i i (omega arith) (omega (arith, w.in_order, w.in_range))) judged.not_late;
        both = λ before. omega
            (arith, delays before, (judged.behind (omega (arith, before, many))).0, room-is v start dwell i j w.in_order w.in_range);
        second = λ before. omega (
          arith,
          delays before,
          (judged.behind (omega (arith, before, many))).1,
          room-is v start dwell j j
              (omega arith) w.in_range,
        );
      };
      in_time = judged.in_time;
      short = judged.short;
      loads = λ p low high.
          sym (ap (has_room terms) (load-is v start dwell p (omega (arith, high, w.in_range))))
          ∙ range_passes (has_room terms) (load_at slack) i (j + 1 - i) judged.room p low (omega (arith, low, high, w.in_order));
    }

-- the cost of the plan
pub cost-is : (roads : RoadMap) (settings : Settings) (v : Vehicle) (ride : Ride) (time i j : ℕ) (joins : Joins)
    (start late pickup more dropoff delay : ℕ)
    → IsWith roads v ride i j joins start settings.dwell late pickup more dropoff → (j < length v.stops.items → delay ≡ late + more)
    → plan_cost settings v (with_ride v ride i j joins) i start time
    ≡ cost_of (terms_of v ride start time settings) pickup
    (seconds_added (terms_of v ride start time settings) (slack_of v start settings.dwell) j dropoff delay)
cost-is roads settings v ride time i j joins start late pickup more dropoff delay w delays =
    let dwell : ℕ = settings.dwell in
    let times = times_of v start dwell in
    let many : length times ≡ length v.stops.items = length-times dwell start v.stops.items in
    ap (λ n. settings.drive * (drive_of (with_ride v ride i j joins) dwell - drive_of v dwell) + settings.wait * (n - time))
    (ap (λ ts. slice_index ts i) w.arrivals ∙ pickup-index i late pickup j more dropoff times w.in_order
    (omega (arith, w.in_range, many)))
    ∙ ap (λ n. settings.drive * n + settings.wait * (pickup - time))
    (driven (less_or_same j (length times) (omega (arith, w.in_range, many))))
  where
    new_drive : start + drive_of (with_ride v ride i j joins) settings.dwell ≡ last_time start
        (arrivals_with i late pickup j more dropoff (times_of v start settings.dwell))
    new_drive = drive-last (with_ride v ride i j joins) start settings.dwell ∙ ap (last_time start) w.arrivals

    old_drive : start + drive_of v settings.dwell ≡ last_time start (times_of v start settings.dwell)
    old_drive = drive-last v start settings.dwell

    less : (a b : ℕ) → a < b → (c : Bool) → eqb a b ≡ c → c ≡ false
    less a b h true is = absurd (omega (arith, h, eqb-true a b is))
    less a b h false is = refl

    driven : ((j < length (times_of v start settings.dwell)) ⊎ (j ≡ length (times_of v start settings.dwell)))
        → drive_of (with_ride v ride i j joins) settings.dwell - drive_of v settings.dwell
        ≡ cond (eqb j (length (times_of v start settings.dwell))) (dropoff - last_time start (times_of v start settings.dwell)) delay
    driven (inl before) =
        let more_driven : drive_of (with_ride v ride i j joins) settings.dwell - drive_of v settings.dwell ≡ delay
        = omega (
          arith,
          new_drive,
          old_drive,
          last-before start i late pickup j more dropoff (times_of v start settings.dwell) w.in_order before,
          delays (omega (arith, before, length-times settings.dwell start v.stops.items)),
        ) in
        more_driven ∙ sym (ap (λ b. cond b (dropoff - last_time start (times_of v start settings.dwell)) delay)
        (less j (length (times_of v start settings.dwell)) before _ refl))
    driven (inr last) =
        let more_driven : drive_of (with_ride v ride i j joins) settings.dwell - drive_of v settings.dwell ≡ dropoff - last_time start
        (times_of v start settings.dwell)
        = omega (
          arith,
          new_drive,
          old_drive,
          last-at-end start i late pickup j more dropoff
              (times_of v start settings.dwell) w.in_order last,
        ) in
        more_driven ∙ sym (ap (λ b. cond b (dropoff - last_time start (times_of v start settings.dwell)) delay)
        (eq-eqb j (length (times_of v start settings.dwell)) last))

-- the offer of the plan costs what the tables say
pub placed : (roads : RoadMap) (settings : Settings) (v : Vehicle) (ride : Ride) (near : Near) (time i j : ℕ) (joins : Joins)
    (late pickup more dropoff delay : ℕ)
    → IsWith roads v ride i j joins (start_of v settings.lead time) settings.dwell late pickup more dropoff →
    (j < length v.stops.items → delay ≡ late + more)
    → keeps v (start_of v settings.lead time) settings.dwell ≡ true
    → (Judged (terms_of v ride (start_of v settings.lead time) time settings)
    (slack_of v (start_of v settings.lead time) settings.dwell) i j pickup late dropoff delay
    → cost_at (terms_of v ride (start_of v settings.lead time) time settings)
    (slack_of v (start_of v settings.lead time) settings.dwell) near i j
    ≡ Some (cost_of (terms_of v ride (start_of v settings.lead time) time settings) pickup
    (seconds_added (terms_of v ride (start_of v settings.lead time) time settings)
    (slack_of v (start_of v settings.lead time) settings.dwell) j dropoff delay)))
    → ((cost : ℕ) → cost_at (terms_of v ride (start_of v settings.lead time) time settings)
    (slack_of v (start_of v settings.lead time) settings.dwell) near i j ≡ Some cost
    → Judged (terms_of v ride (start_of v settings.lead time) time settings)
    (slack_of v (start_of v settings.lead time) settings.dwell) i j pickup late dropoff delay)
    → cost_if_any (offer_of_plan settings v i j time (with_ride v ride i j joins))
    ≡ cost_at (terms_of v ride (start_of v settings.lead time) time settings)
    (slack_of v (start_of v settings.lead time) settings.dwell) near i j
placed roads settings v ride near time i j joins late pickup more dropoff delay w delays on_time to_cost from_cost =
    elim (keeps new start settings.dwell) as (λ b. keeps new start settings.dwell ≡ b
    → cost_if_any (cond b
    (Some (record { i = i; j = j; cost = plan_cost settings v new i start time; start = start; joins = joins_of new i j })) None)
    ≡ cost_at terms slack near i j) [
      | true ↦ λ kept.
          let judged = fits_judged roads settings v ride time i j joins start late pickup more dropoff delay w delays
          (kept_fits roads v ride i j joins start settings.dwell late pickup more dropoff w kept) in
          ap Some (cost-is roads settings v ride time i j joins start late pickup more dropoff delay w delays) ∙ sym (to_cost judged)
      | false ↦ λ broken. elim (cost_at terms slack near i j) as (λ o. cost_at terms slack near i j ≡ o → None ≡ o) [
        | None ↦ λ _. refl
        | Some cost ↦ λ is. absurd (cc (
          broken,
          fits_kept roads v ride i j joins start settings.dwell late pickup more dropoff w
              (judged_fits roads settings v ride time i j joins start late pickup more dropoff delay w delays on_time
              (from_cost cost is)),
        ))
      ] refl
    ] refl
  where
    start : ℕ
    start = start_of v settings.lead time

    new : Vehicle
    new = with_ride v ride i j joins

    terms : Terms
    terms = terms_of v ride start time settings

    slack : PlanSlack
    slack = slack_of v start settings.dwell
