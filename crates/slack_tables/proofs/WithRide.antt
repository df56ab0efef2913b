-- A plan with a ride more: its arrivals, and what it keeps.
use Rattle.slack_tables.proofs.Common.{◌≡◌, ℕ, zero, suc, ◌+◌, ◌<◌, ◌≤◌, ◌⊎◌, inl, inr, Bool, true, false, not, ◌&&◌, ◌||◌, List, [], ◌∷◌, ◌++◌, length, take, eqb, ltb, refl, sym, ◌∙◌, ap, subst, arith, slice_index, add-zero, insert, Option, Some, None, is_some, AllByRecursion, list_all, eqb-true, eq-eqb, and_from, and_parts, recursion_from_All, le_or_lt, Joins, Kind, Pickup, Dropoff, Load, Ride, Stop, Vehicle, RoadMap, IsRoadMap, IsRouted, IsLawful, IsFresh, is_aboard_from, is_aboard_after, load_after, fits_load, loads_fit, times_from, times_of, keeps, pickup_of, dropoff_of, with_plan, FitsThroughout, fits_throughout, loads_fit-throughout, load-agrees, is_kind, is_visit, with_leg, with_stop, length-with_stop, arrival_of, boarding_of, breaks_trip, breaks_along, HasVisits, length-times, keeps-vehicle, no_limit, trips_of, leave_at}
use Rattle.model_laws.proofs.Insertions.{plan-fresh}
use Rattle.slack_tables.proofs.Delays.{delayed, times-with, length-delayed, delayed-insert, leave-insert, length-insert}
use Rattle.slack_tables.proofs.Visits.{arrival-skip, arrival-here, arrival-none}
use Rattle.slack_tables.proofs.TripRooms.{limits_kept, kept_limits}
use Rattle.slack_tables.proofs.RideRooms.{twice_delayed, AllowsAll, all_limits_to_rooms, all_rooms_to_limits}
use Rattle.slack_tables.proofs.WithLoads.{take-before, aboard-other, aboard-none, aboard-own, others-taken, load_with, load-push}

-- the stops and the vehicle with a ride more
abbrev pub stops_joined : List Stop → Ride → ℕ → ℕ → Joins → List Stop
stops_joined stops ride i j joins =
    with_stop i (with_leg joins.to_pickup (pickup_of ride)) joins.after_pickup
    (with_stop j (with_leg joins.to_dropoff (dropoff_of ride)) joins.after_dropoff stops)

abbrev pub with_ride : Vehicle → Ride → ℕ → ℕ → Joins → Vehicle
with_ride v ride i j joins = with_plan v (v.rides.items ++ ride ∷ []) (stops_joined v.stops.items ride i j joins)

-- the arrivals of a plan with two stops more
abbrev pub arrivals_with : ℕ → ℕ → ℕ → ℕ → ℕ → ℕ → List ℕ → List ℕ
arrivals_with i late pickup j more dropoff times = insert (insert (twice_delayed i late j more times) j dropoff) i pickup

pub arrivals-two : (dwell start i j late more : ℕ) (p d : Stop) (b e : ℕ) (stops : List Stop) → i ≤ j → j ≤ length stops
    → (j < length stops → more + slice_index (times_from dwell start stops) j ≡ leave_at start dwell
    (times_from dwell start stops) j + d.leg + dwell + e)
    → late + slice_index (insert (delayed j more (times_from dwell start stops)) j
    (leave_at start dwell (times_from dwell start stops) j + d.leg)) i
    ≡ leave_at start dwell (times_from dwell start stops) i + p.leg + dwell + b
    → times_from dwell start (with_stop i p b (with_stop j d e stops))
    ≡ arrivals_with i late (leave_at start dwell (times_from dwell start stops) i + p.leg) j more
    (leave_at start dwell (times_from dwell start stops) j + d.leg + late) (times_from dwell start stops)
arrivals-two dwell start i j late more p d b e stops in_order within reaches_j reaches_i =
    let times = times_from dwell start stops in
    let many : length times ≡ length stops = length-times dwell start stops in
    let arrival : ℕ = leave_at start dwell times j + d.leg in
    let one : times_from dwell start (with_stop j d e stops) ≡ insert
    (delayed j more times) j arrival = times-with dwell start j d e more stops within reaches_j in
    let leaves : leave_at start dwell (insert (delayed j more times) j arrival) i ≡ leave_at start dwell times i
    = leave-insert start dwell i j more arrival times in_order (omega (arith, many, within)) in
    times-with dwell start i p b late (with_stop j d e stops) (omega (arith, length-with_stop j d e stops within, in_order))
    (λ _. ap (λ ts. late + slice_index ts i) one ∙ reaches_i ∙ ap (λ n. n + p.leg + dwell + b)
    (sym leaves ∙ ap (λ ts. leave_at start dwell ts i) (sym one)))
    ∙ ap (λ ts. insert (delayed i late ts) i (leave_at start dwell ts i + p.leg)) one
    ∙ ap (λ n. insert (delayed i late (insert (delayed j more times) j arrival)) i (n + p.leg)) leaves
    ∙ ap (λ ts. insert ts i (leave_at start dwell times i + p.leg))
    (delayed-insert i j late arrival (delayed j more times) in_order (omega (arith, length-delayed j more times, many, within)))

-- a plan with a ride more, and what its arrivals are
pub record IsWith (roads : RoadMap) (v : Vehicle) (ride : Ride) (i j : ℕ) (joins : Joins)
    (start dwell late pickup more dropoff : ℕ) : Type 0 where
  pub map_fits : IsRoadMap roads
  pub lawful : IsLawful roads v
  pub fresh : IsFresh v.rides.items ride.id
  pub waits : ride.picked ≡ None
  pub new_routed : IsRouted roads (with_ride v ride i j joins)
  pub in_order : i ≤ j
  pub in_range : j ≤ length v.stops.items
  pub room : length v.stops.items ≤ 14
  pub few : late + more ≤ no_limit
  pub arrivals : times_of (with_ride v ride i j joins) start dwell ≡ arrivals_with i late pickup j more dropoff
      (times_of v start dwell)

-- what it must be to keep its promises
pub record Fits (v : Vehicle) (ride : Ride) (i j start dwell late pickup more dropoff : ℕ) : Type 0 where
  pub old : list_all (λ (r : Ride). not (breaks_along v.stops.items (times_of v start dwell) r)) v.rides.items ≡ true
  pub rooms : AllowsAll (trips_of v (times_of v start dwell)) (length v.stops.items) i j late more
  pub in_time : pickup ≤ ride.latest
  pub short : dropoff ≤ pickup + ride.longest
  pub loads : (p : ℕ) → i ≤ p → p ≤ j → fits_load v (load_with (load_after v.rides.items (take p v.stops.items)) true ride) ≡ true

-- the number of the new plan's stops
length-joined : (stops : List Stop) (ride : Ride) (i j : ℕ) (joins : Joins) → i ≤ j → j ≤ length stops
    → length (stops_joined stops ride i j joins) ≡ length stops + 2
length-joined stops ride i j joins in_order within =
    let inner = length-with_stop j (with_leg joins.to_dropoff (dropoff_of ride)) joins.after_dropoff stops within in
    omega (
      arith,
      inner,
      length-with_stop i (with_leg joins.to_pickup (pickup_of ride)) joins.after_pickup
          (with_stop j (with_leg joins.to_dropoff (dropoff_of ride)) joins.after_dropoff stops) (omega (arith, inner, in_order)),
    )

-- the other rides have other ids
others : (rides : List Ride) (id : ℕ) → IsFresh rides id → AllByRecursion (λ (r : Ride). eqb id r.id ≡ false) rides
others [] id fresh = tt
others (r ∷ rides) id fresh =
    (differs (eqb id r.id) refl, others rides id (λ (k, within, is). fresh (suc k, omega (arith, within), is)))
  where
    differs : (b : Bool) → eqb id r.id ≡ b → b ≡ false
    differs true is = absurd (fresh (0, omega arith, sym (eqb-true id r.id is)))
    differs false is = refl

all-push : {X : Type 0} (test : X → Bool) (xs : List X) (x : X) → list_all test (xs ++ x ∷ []) ≡ (list_all test xs && test x)
all-push test [] x = and_true (test x)
  where
    and_true : (b : Bool) → (b && true) ≡ b
    and_true true = refl
    and_true false = refl
all-push test (y ∷ xs) x = ap (λ b. test y && b) (all-push test xs x) ∙ assoc (test y) (list_all test xs) (test x)
  where
    assoc : (a b c : Bool) → (a && (b && c)) ≡ ((a && b) && c)
    assoc true b c = refl
    assoc false b c = refl

all-same : {X : Type 0} (f g : X → Bool) (xs : List X) → AllByRecursion (λ x. f x ≡ g x) xs → list_all f xs ≡ list_all g xs
all-same f g [] h = refl
all-same f g (x ∷ xs) (here, rest) = ap (λ b. b && list_all f xs) here ∙ ap (λ b. g x && b) (all-same f g xs rest)

-- the arrivals at another ride's visits
arrival-other : (id : ℕ) (kind : Kind) (stops : List Stop) (ride : Ride) (i j late pickup more dropoff : ℕ) (joins : Joins)
    (times : List ℕ)
    → i ≤ j → j ≤ length stops → length times ≡ length stops
    → is_visit id kind (pickup_of ride) ≡ false → is_visit id kind (dropoff_of ride) ≡ false
    → arrival_of id kind (stops_joined stops ride i j joins) (arrivals_with i late pickup j more dropoff times)
    ≡ arrival_of id kind stops (twice_delayed i late j more times)
arrival-other id kind stops ride i j late pickup more dropoff joins times in_order within same no_pickup no_dropoff =
    let later = twice_delayed i late j more times in
    let many : length later ≡ length stops = length-delayed i late (delayed j more times) ∙ length-delayed j more times ∙ same in
    let inner = with_stop j (with_leg joins.to_dropoff (dropoff_of ride)) joins.after_dropoff stops in
    let inner_many = length-with_stop j (with_leg joins.to_dropoff (dropoff_of ride)) joins.after_dropoff stops within in
    arrival-skip id kind i (with_leg joins.to_pickup (pickup_of ride)) joins.after_pickup pickup inner (insert later j dropoff)
    (omega (arith, inner_many, in_order, within))
    (omega (arith, inner_many, many, length-insert later j dropoff (omega (arith, many, within)))) no_pickup
    ∙ arrival-skip id kind j
    (with_leg joins.to_dropoff (dropoff_of ride)) joins.after_dropoff dropoff stops later within many no_dropoff

-- the arrivals at the new ride's own
arrival-pickup : (stops : List Stop) (ride : Ride) (i j late pickup more dropoff : ℕ) (joins : Joins) (times : List ℕ)
    → i ≤ j → j ≤ length stops → length times ≡ length stops → AllByRecursion (λ (s : Stop). eqb s.ride ride.id ≡ false) stops
    → arrival_of ride.id Pickup (stops_joined stops ride i j joins) (arrivals_with i late pickup j more dropoff times) ≡ Some pickup
arrival-pickup stops ride i j late pickup more dropoff joins times in_order within same none =
    let later = twice_delayed i late j more times in
    let many : length later ≡ length stops = length-delayed i late (delayed j more times) ∙ length-delayed j more times ∙ same in
    let inner = with_stop j (with_leg joins.to_dropoff (dropoff_of ride)) joins.after_dropoff stops in
    let inner_many = length-with_stop j (with_leg joins.to_dropoff (dropoff_of ride)) joins.after_dropoff stops within in
    let own : eqb ride.id ride.id ≡ true = eq-eqb ride.id ride.id refl in
    arrival-here ride.id Pickup i (with_leg joins.to_pickup (pickup_of ride)) joins.after_pickup pickup inner (insert later j dropoff)
    (omega (arith, inner_many, in_order, within))
    (omega (arith, inner_many, many, length-insert later j dropoff (omega (arith, many, within))))
    (ap (λ b. b && true) own)
    (arrival-skip ride.id Pickup j (with_leg joins.to_dropoff (dropoff_of ride)) joins.after_dropoff dropoff stops later within many
    (ap (λ b. b && false) own)
    ∙ arrival-none ride.id Pickup stops later none)

arrival-dropoff : (stops : List Stop) (ride : Ride) (i j late pickup more dropoff : ℕ) (joins : Joins) (times : List ℕ)
    → i ≤ j → j ≤ length stops → length times ≡ length stops → AllByRecursion (λ (s : Stop). eqb s.ride ride.id ≡ false) stops
    → arrival_of ride.id Dropoff (stops_joined stops ride i j joins) (arrivals_with i late pickup j more dropoff times) ≡ Some dropoff
arrival-dropoff stops ride i j late pickup more dropoff joins times in_order within same none =
    let later = twice_delayed i late j more times in
    let many : length later ≡ length stops = length-delayed i late (delayed j more times) ∙ length-delayed j more times ∙ same in
    let inner = with_stop j (with_leg joins.to_dropoff (dropoff_of ride)) joins.after_dropoff stops in
    let inner_many = length-with_stop j (with_leg joins.to_dropoff (dropoff_of ride)) joins.after_dropoff stops within in
    let own : eqb ride.id ride.id ≡ true = eq-eqb ride.id ride.id refl in
    arrival-skip ride.id Dropoff i (with_leg joins.to_pickup (pickup_of ride)) joins.after_pickup pickup inner (insert later j dropoff)
    (omega (arith, inner_many, in_order, within))
    (omega (arith, inner_many, many, length-insert later j dropoff (omega (arith, many, within))))
    (ap (λ b. b && false) own)
    ∙ arrival-here ride.id Dropoff j (with_leg joins.to_dropoff (dropoff_of ride)) joins.after_dropoff dropoff stops later within many
    (ap (λ b. b && true) own)
    (arrival-none ride.id Dropoff stops later none)

-- what the old rides' limits are in the new plan
old-limits : (stops : List Stop) (ride : Ride) (i j late pickup more dropoff : ℕ) (joins : Joins) (times : List ℕ) (rides : List Ride)
    → i ≤ j → j ≤ length stops → length times ≡ length stops → AllByRecursion (λ (r : Ride). eqb ride.id r.id ≡ false) rides
    → AllByRecursion (λ (r : Ride). not
    (breaks_along (stops_joined stops ride i j joins) (arrivals_with i late pickup j more dropoff times) r)
    ≡ not (breaks_along stops (twice_delayed i late j more times) r)) rides
old-limits stops ride i j late pickup more dropoff joins times [] in_order within same h = tt
old-limits stops ride i j late pickup more dropoff joins times (r ∷ rides) in_order within same (other, rest) = (
  ap not (ap (breaks_trip r
      (boarding_of r r.picked (stops_joined stops ride i j joins) (arrivals_with i late pickup j more dropoff times)))
      (arrival-other r.id Dropoff stops ride i j late pickup more dropoff joins times in_order within same (ap (λ b. b && false) other)
      (ap (λ b. b && true) other))
      ∙ ap (λ o. breaks_trip r o (arrival_of r.id Dropoff stops (twice_delayed i late j more times))) (boards r.picked)),
  old-limits stops ride i j late pickup more dropoff joins times rides in_order within same rest,
)
  where
    boards : (picked : Option ℕ) → boarding_of r picked (stops_joined stops ride i j joins)
        (arrivals_with i late pickup j more dropoff times)
        ≡ boarding_of r picked stops (twice_delayed i late j more times)
    boards None = arrival-other r.id Pickup stops ride i j late pickup more dropoff joins times in_order within same
        (ap (λ b. b && true) other) (ap (λ b. b && false) other)
    boards (Some at) = refl

-- what the new ride's are
new-limits : (stops : List Stop) (ride : Ride) (i j late pickup more dropoff : ℕ) (joins : Joins) (times : List ℕ)
    → i ≤ j → j ≤ length stops → length times ≡ length stops → AllByRecursion (λ (s : Stop). eqb s.ride ride.id ≡ false) stops
    → ride.picked ≡ None
    → not (breaks_along (stops_joined stops ride i j joins) (arrivals_with i late pickup j more dropoff times) ride)
    ≡ not ((true && ltb ride.latest pickup) || ltb (pickup + ride.longest) dropoff)
new-limits stops ride i j late pickup more dropoff joins times in_order within same none waits =
    let out = stops_joined stops ride i j joins in
    let at_stops = arrivals_with i late pickup j more dropoff times in
    ap not (ap (breaks_trip ride (boarding_of ride ride.picked out at_stops))
    (arrival-dropoff stops ride i j late pickup more dropoff joins times in_order within same none)
    ∙ ap (λ o. breaks_trip ride (boarding_of ride o out at_stops) (Some dropoff)) waits
    ∙ ap (λ o. breaks_trip ride o (Some dropoff))
    (arrival-pickup stops ride i j late pickup more dropoff joins times in_order within same none)
    ∙ ap (λ o. (not (is_some o) && ltb ride.latest pickup) || ltb (pickup + ride.longest) dropoff) waits)

-- what the new plan keeps
kept-is : (roads : RoadMap) (v : Vehicle) (ride : Ride) (i j : ℕ) (joins : Joins) (start dwell late pickup more dropoff : ℕ)
    → IsWith roads v ride i j joins start dwell late pickup more dropoff
    → ((list_all (λ (r : Ride). not
    (breaks_along v.stops.items (twice_delayed i late j more (times_of v start dwell)) r)) v.rides.items
    && not ((true && ltb ride.latest pickup) || ltb (pickup + ride.longest) dropoff)) && loads_fit (with_ride v ride i j joins))
    ≡ keeps (with_ride v ride i j joins) start dwell
kept-is roads v ride i j joins start dwell late pickup more dropoff w =
    let new = with_ride v ride i j joins in
    let times = times_of v start dwell in
    let out = stops_joined v.stops.items ride i j joins in
    let many : length times ≡ length v.stops.items = length-times dwell start v.stops.items in
    sym (ap (λ b. b && loads_fit new) (
    ap (λ ts. list_all (λ (r : Ride). not (breaks_along out ts r)) (v.rides.items ++ ride ∷ [])) w.arrivals
    ∙ all-push (λ (r : Ride). not (breaks_along out (arrivals_with i late pickup j more dropoff times) r)) v.rides.items ride
    ∙ ap (λ b. b && not (breaks_along out (arrivals_with i late pickup j more dropoff times) ride))
    (all-same _ _ v.rides.items
    (old-limits v.stops.items ride i j late pickup more dropoff joins times v.rides.items w.in_order w.in_range many
    (others v.rides.items ride.id w.fresh)))
    ∙ ap (λ b. list_all (λ (r : Ride). not (breaks_along v.stops.items (twice_delayed i late j more times) r)) v.rides.items && b)
    (new-limits v.stops.items ride i j late pickup more dropoff joins times w.in_order w.in_range many
    (plan-fresh v.rides.items v.stops.items ride.id w.lawful.routed.planned w.fresh) w.waits)
    ))
    ∙ keeps-vehicle new start dwell (roads, w.map_fits, w.new_routed)
    (omega (arith, w.room, length-joined v.stops.items ride i j joins w.in_order w.in_range))

-- the loads of the new plan
pub record NewLoads (v : Vehicle) (ride : Ride) (i j : ℕ) (joins : Joins) : Type 0 where
  pub before : (k : ℕ) → k ≤ i
      → load_after (v.rides.items ++ ride ∷ []) (take k (stops_joined v.stops.items ride i j joins)) ≡ load_after v.rides.items
      (take k v.stops.items)
  pub between : (k : ℕ) → i ≤ k → k ≤ j
      → load_after (v.rides.items ++ ride ∷ []) (take (suc k) (stops_joined v.stops.items ride i j joins)) ≡ load_with
      (load_after v.rides.items (take k v.stops.items)) true ride
  pub behind : (k : ℕ) → j ≤ k
      → load_after (v.rides.items ++ ride ∷ []) (take (suc (suc k)) (stops_joined v.stops.items ride i j joins))
      ≡ load_after v.rides.items (take k v.stops.items)

load_without : (load : Load) (ride : Ride) → load_with load false ride ≡ load
load_without load ride = λ k. record { seats = add-zero load.seats k; chairs = add-zero load.chairs k }

new_loads : (v : Vehicle) (ride : Ride) (i j : ℕ) (joins : Joins) → i ≤ j → j ≤ length v.stops.items → IsFresh v.rides.items ride.id
    → ride.picked ≡ None
    → AllByRecursion (λ (s : Stop). eqb s.ride ride.id ≡ false) v.stops.items → NewLoads v ride i j joins
new_loads v ride i j joins in_order within fresh waits none = record { before = before; between = between; behind = behind }
  where
    stops : List Stop
    stops = v.stops.items

    pickup : Stop
    pickup = with_leg joins.to_pickup (pickup_of ride)

    dropoff : Stop
    dropoff = with_leg joins.to_dropoff (dropoff_of ride)

    inner : List Stop
    inner = with_stop j dropoff joins.after_dropoff stops

    inner_within : i ≤ length inner
    inner_within = omega (arith, length-with_stop j dropoff joins.after_dropoff stops within, in_order, within)

    other_rides : AllByRecursion (λ (r : Ride). eqb ride.id r.id ≡ false) v.rides.items
    other_rides = others v.rides.items ride.id fresh

    own : eqb ride.id ride.id ≡ true
    own = eq-eqb ride.id ride.id refl

    no_stop_before : AllByRecursion (λ (s : Stop). eqb s.ride ride.id ≡ false) (take i inner)
    no_stop_before = subst (AllByRecursion (λ (s : Stop). eqb s.ride ride.id ≡ false))
        (sym (take-before j dropoff joins.after_dropoff i stops within in_order)) (others-taken ride.id i stops none)

    before : (k : ℕ) → k ≤ i → load_after (v.rides.items ++ ride ∷ []) (take k (stops_joined stops ride i j joins))
        ≡ load_after v.rides.items (take k stops)
    before k low =
        ap (load_after (v.rides.items ++ ride ∷ [])) (take-before i pickup joins.after_pickup k inner inner_within low
        ∙ take-before j dropoff joins.after_dropoff k stops within (omega (arith, low, in_order)))
        ∙ load-push v.rides.items ride (take k stops) false (aboard-none (is_some ride.picked) ride.id k stops none ∙ ap is_some waits)
        ∙ load_without (load_after v.rides.items (take k stops)) ride

    between : (k : ℕ) → i ≤ k → k ≤ j
        → load_after (v.rides.items ++ ride ∷ []) (take (suc k) (stops_joined stops ride i j joins)) ≡ load_with
        (load_after v.rides.items (take k stops)) true ride
    between k low high =
        let same = take-before j dropoff joins.after_dropoff k stops within high in
        load-push v.rides.items ride (take (suc k) (stops_joined stops ride i j joins)) true
        (aboard-own (is_some ride.picked) ride.id i pickup joins.after_pickup k inner inner_within low own no_stop_before
        ∙ ap (is_aboard_from true ride.id) same
        ∙ aboard-none true ride.id k stops none)
        ∙ ap (λ load. load_with load true ride)
        (load-agrees v.rides.items (take (suc k) (stops_joined stops ride i j joins)) (take k stops)
        (each v.rides.items other_rides))
      where
        each : (rs : List Ride) → AllByRecursion (λ (r : Ride). eqb ride.id r.id ≡ false) rs
            → AllByRecursion (λ (r : Ride). is_aboard_after (take (suc k) (stops_joined stops ride i j joins)) r ≡ is_aboard_after
            (take k stops) r) rs
        each [] h = tt
        each (r ∷ rs) (other, rest) = (
          aboard-other (is_some r.picked) r.id i pickup joins.after_pickup k inner inner_within low other
              ∙ ap (is_aboard_from (is_some r.picked) r.id) (take-before j dropoff joins.after_dropoff k stops within high),
          each rs rest,
        )

    behind : (k : ℕ) → j ≤ k
        → load_after (v.rides.items ++ ride ∷ []) (take (suc (suc k)) (stops_joined stops ride i j joins)) ≡ load_after v.rides.items
        (take k stops)
    behind k high =
        load-push v.rides.items ride (take (suc (suc k)) (stops_joined stops ride i j joins)) false
        (aboard-own (is_some ride.picked) ride.id i pickup joins.after_pickup (suc k) inner inner_within
        (omega (arith, in_order, high)) own no_stop_before
        ∙ aboard-own true ride.id j dropoff joins.after_dropoff k stops within high own (others-taken ride.id j stops none)
        ∙ aboard-none false ride.id k stops none)
        ∙ load_without (load_after v.rides.items (take (suc (suc k)) (stops_joined stops ride i j joins))) ride
        ∙ load-agrees v.rides.items (take (suc (suc k)) (stops_joined stops ride i j joins)) (take k stops)
        (each v.rides.items other_rides)
      where
        each : (rs : List Ride) → AllByRecursion (λ (r : Ride). eqb ride.id r.id ≡ false) rs
            → AllByRecursion (λ (r : Ride). is_aboard_after (take (suc (suc k)) (stops_joined stops ride i j joins)) r
            ≡ is_aboard_after (take k stops) r) rs
        each [] h = tt
        each (r ∷ rs) (other, rest) = (
          aboard-other (is_some r.picked) r.id i pickup joins.after_pickup (suc k) inner inner_within
              (omega (arith, in_order, high)) other
              ∙ aboard-other (is_some r.picked) r.id j dropoff joins.after_dropoff k stops within high other,
          each rs rest,
        )

-- a plan that keeps its promises fits
pub kept_fits : (roads : RoadMap) (v : Vehicle) (ride : Ride) (i j : ℕ) (joins : Joins) (start dwell late pickup more dropoff : ℕ)
    → IsWith roads v ride i j joins start dwell late pickup more dropoff → keeps (with_ride v ride i j joins) start dwell ≡ true
    → Fits v ride i j start dwell late pickup more dropoff
kept_fits roads v ride i j joins start dwell late pickup more dropoff w kept =
    let new = with_ride v ride i j joins in
    let times = times_of v start dwell in
    let many : length times ≡ length v.stops.items = length-times dwell start v.stops.items in
    let due = recursion_from_All (HasVisits v.stops.items) v.rides.items w.lawful.routed.planned.each_ride in
    let (limits, fits) = and_parts
    (list_all (λ (r : Ride). not (breaks_along v.stops.items (twice_delayed i late j more times) r)) v.rides.items
    && not ((true && ltb ride.latest pickup) || ltb (pickup + ride.longest) dropoff)) (loads_fit new)
    (kept-is roads v ride i j joins start dwell late pickup more dropoff w ∙ kept) in
    let (olds, own) = and_parts
    (list_all (λ (r : Ride). not (breaks_along v.stops.items (twice_delayed i late j more times) r)) v.rides.items)
    (not ((true && ltb ride.latest pickup) || ltb (pickup + ride.longest) dropoff)) limits in
    let (now, rooms) = all_limits_to_rooms v.stops.items times i late j more v.rides.items many due w.in_order w.few olds in
    let own_limits = limits_kept true ride.latest ride.longest pickup dropoff own in
    let loads = new_loads v ride i j joins w.in_order w.in_range w.fresh w.waits
    (plan-fresh v.rides.items v.stops.items ride.id w.lawful.routed.planned w.fresh) in
    let through = fits_throughout new fits in
    record {
      old = now;
      rooms = rooms;
      in_time = own_limits.in_time refl;
      short = own_limits.short;
      loads = λ p low high. ap (fits_load v) (sym (loads.between p low high))
          ∙ through (suc p) (omega (arith, low, high, w.in_range, length-joined v.stops.items ride i j joins w.in_order w.in_range));
    }

pub fits_kept : (roads : RoadMap) (v : Vehicle) (ride : Ride) (i j : ℕ) (joins : Joins) (start dwell late pickup more dropoff : ℕ)
    → IsWith roads v ride i j joins start dwell late pickup more dropoff → Fits v ride i j start dwell late pickup more dropoff
    → keeps (with_ride v ride i j joins) start dwell ≡ true
fits_kept roads v ride i j joins start dwell late pickup more dropoff w fits =
    let new = with_ride v ride i j joins in
    let times = times_of v start dwell in
    let many : length times ≡ length v.stops.items = length-times dwell start v.stops.items in
    let due = recursion_from_All (HasVisits v.stops.items) v.rides.items w.lawful.routed.planned.each_ride in
    let loads = new_loads v ride i j joins w.in_order w.in_range w.fresh w.waits
    (plan-fresh v.rides.items v.stops.items ride.id w.lawful.routed.planned w.fresh) in
    let old_fits = fits_throughout v w.lawful.loads in
    sym (kept-is roads v ride i j joins start dwell late pickup more dropoff w)
    ∙ and_from _ (loads_fit new)
    (and_from _ _ (all_rooms_to_limits v.stops.items times i late j more v.rides.items many due w.in_order w.few fits.old fits.rooms)
    (kept_limits true ride.latest ride.longest pickup dropoff (record { in_time = λ _. fits.in_time; short = fits.short })))
    (loads_fit-throughout new
    (λ k few. by_place loads old_fits k (omega (arith, few, length-joined v.stops.items ride i j joins w.in_order w.in_range))))
  where
    by_place : NewLoads v ride i j joins → FitsThroughout (fits_load v) v.rides.items v.stops.items → (k : ℕ)
        → k ≤ length v.stops.items + 2
        → fits_load v (load_after (v.rides.items ++ ride ∷ []) (take k (stops_joined v.stops.items ride i j joins))) ≡ true
    by_place loads old_fits k few = elim (le_or_lt k i) [
      | inl low ↦ ap (fits_load v) (loads.before k low) ∙ old_fits k (omega (arith, low, w.in_order, w.in_range))
      | inr high ↦ behind_first k high few
    ]
      where
        behind_first : (n : ℕ) → i < n → n ≤ length v.stops.items + 2
            → fits_load v (load_after (v.rides.items ++ ride ∷ []) (take n (stops_joined v.stops.items ride i j joins))) ≡ true
        behind_first zero h f = absurd (omega arith)
        behind_first (suc n) h f = elim (le_or_lt n j) [
          | inl low ↦ ap (fits_load v) (loads.between n (omega (arith, h)) low) ∙ fits.loads n (omega (arith, h)) low
          | inr high ↦ behind_second n high f
        ]
          where
            behind_second : (m : ℕ) → j < m → suc m ≤ length v.stops.items + 2
                → fits_load v (load_after (v.rides.items ++ ride ∷ []) (take (suc m) (stops_joined v.stops.items ride i j joins)))
                ≡ true
            behind_second zero g e = absurd (omega arith)
            behind_second (suc m) g e = ap (fits_load v) (loads.behind m (omega (arith, g))) ∙ old_fits m (omega (arith, e))
