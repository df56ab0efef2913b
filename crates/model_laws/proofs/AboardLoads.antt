-- What is aboard of a plan with a ride less.
use Rattle.model_laws.proofs.Common.{◌≡◌, ℕ, zero, suc, ◌+◌, ◌<◌, ◌≤◌, ◌⊎◌, inl, inr, Bool, true, false, not, cond, ◌&&◌, List, [], ◌∷◌, length, take, eqb, leb, leb-true, le-leb, refl, sym, ◌∙◌, ap, subst, arith, map, is_some, ◌==◌, filter, AllByRecursion, list_all, range_with_len, sum_by, eqb-true, eq-eqb, and_from, and_parts, sum_by-cons, take-map, length-map, Load, Ride, Stop, Vehicle, is_pickup, is_aboard_from, is_aboard_after, load_after, loads_of, fits_load, loads_fit, stops_without, rides_without}
use Rattle.model_laws.proofs.plain.Numbers.{same_or_less, eqb-other}
use Rattle.model_laws.proofs.Routes.{with_leg}
use Rattle.model_laws.proofs.PlanStops.{unlegged}

-- a test passes at each number of a range
pub range_passes : {X : Type 0} (test : X → Bool) (f : ℕ → X) (from many : ℕ) → list_all test (map f (range_with_len from many)) ≡ true
    → (k : ℕ) → from ≤ k → k < from + many → test (f k) ≡ true
range_passes test f from zero h k low high = absurd (omega arith)
range_passes test f from (suc many) h k low high =
    let (first, rest) = and_parts (test (f from)) (list_all test (map f (range_with_len (from + 1) many))) h in
    elim (same_or_less from k low) [
      | inl here ↦ ap (λ n. test (f n)) (sym here) ∙ first
      | inr above ↦ range_passes test f (from + 1) many rest k (omega (arith, above)) (omega arith)
    ]

pub passes_range : {X : Type 0} (test : X → Bool) (f : ℕ → X) (from many : ℕ)
    → ((k : ℕ) → from ≤ k → k < from + many → test (f k) ≡ true) → list_all test (map f (range_with_len from many)) ≡ true
passes_range test f from zero h = refl
passes_range test f from (suc many) h =
    and_from (test (f from)) (list_all test (map f (range_with_len (from + 1) many))) (h from (omega arith) (omega arith))
    (passes_range test f (from + 1) many (λ k low high. h k (omega arith) (omega arith)))

-- loads that fit after each number of stops
abbrev pub FitsThroughout : (Load → Bool) → List Ride → List Stop → Type 0
FitsThroughout test rides stops = (k : ℕ) → k ≤ length stops → test (load_after rides (take k stops)) ≡ true

pub fits_throughout : (v : Vehicle) → loads_fit v ≡ true → FitsThroughout (fits_load v) v.rides.items v.stops.items
fits_throughout v h zero low = (and_parts (fits_load v (load_after v.rides.items [])) (list_all (fits_load v) (loads_of v)) h).0
fits_throughout v h (suc k) low =
    range_passes (fits_load v) (λ n. load_after v.rides.items (take n v.stops.items)) 1 (length v.stops.items)
    (and_parts (fits_load v (load_after v.rides.items [])) (list_all (fits_load v) (loads_of v)) h).1 (suc k) (omega arith) (omega arith)

pub loads_fit-throughout : (v : Vehicle) → FitsThroughout (fits_load v) v.rides.items v.stops.items → loads_fit v ≡ true
loads_fit-throughout v h =
    and_from (fits_load v (load_after v.rides.items [])) (list_all (fits_load v) (loads_of v)) (h 0 (omega arith))
    (passes_range (fits_load v) (λ n. load_after v.rides.items (take n v.stops.items)) 1 (length v.stops.items)
    (λ k low high. h k (omega arith)))

-- legs do not matter
pub aboard-unlegged : (aboard : Bool) (id : ℕ) (stops : List Stop) → is_aboard_from aboard id (unlegged stops) ≡ is_aboard_from aboard id stops
aboard-unlegged aboard id [] = refl
aboard-unlegged aboard id (stop ∷ stops) = aboard-unlegged (cond (eqb stop.ride id) (is_pickup stop.kind) aboard) id stops

-- loads in terms of whether a ride is aboard
pub load-agrees : (rides : List Ride) (first second : List Stop)
    → AllByRecursion (λ (r : Ride). is_aboard_after first r ≡ is_aboard_after second r) rides → load_after rides first ≡ load_after rides second
load-agrees rides first second same = λ i. record { seats = seats rides same i; chairs = chairs rides same i }
  where
    seats : (rs : List Ride) → AllByRecursion (λ (r : Ride). is_aboard_after first r ≡ is_aboard_after second r) rs
        → sum_by (λ (r : Ride). cond (is_aboard_after first r) r.seats 0) rs ≡ sum_by (λ (r : Ride). cond (is_aboard_after second r) r.seats 0) rs
    seats [] h = refl
    seats (r ∷ rs) (here, rest) =
        sum_by-cons (λ (q : Ride). cond (is_aboard_after first q) q.seats 0) r rs
        ∙ ap (λ b. cond b r.seats 0 + sum_by (λ (q : Ride). cond (is_aboard_after first q) q.seats 0) rs) here
        ∙ ap (λ n. cond (is_aboard_after second r) r.seats 0 + n) (seats rs rest)
        ∙ sym (sum_by-cons (λ (q : Ride). cond (is_aboard_after second q) q.seats 0) r rs)

    chairs : (rs : List Ride) → AllByRecursion (λ (r : Ride). is_aboard_after first r ≡ is_aboard_after second r) rs
        → sum_by (λ (r : Ride). cond (is_aboard_after first r) r.chairs 0) rs ≡ sum_by (λ (r : Ride). cond (is_aboard_after second r) r.chairs 0) rs
    chairs [] h = refl
    chairs (r ∷ rs) (here, rest) =
        sum_by-cons (λ (q : Ride). cond (is_aboard_after first q) q.chairs 0) r rs
        ∙ ap (λ b. cond b r.chairs 0 + sum_by (λ (q : Ride). cond (is_aboard_after first q) q.chairs 0) rs) here
        ∙ ap (λ n. cond (is_aboard_after second r) r.chairs 0 + n) (chairs rs rest)
        ∙ sym (sum_by-cons (λ (q : Ride). cond (is_aboard_after second q) q.chairs 0) r rs)

pub load-unlegged : (rides : List Ride) (stops : List Stop) → load_after rides (unlegged stops) ≡ load_after rides stops
load-unlegged rides stops = load-agrees rides (unlegged stops) stops (each rides)
  where
    each : (rs : List Ride) → AllByRecursion (λ (r : Ride). is_aboard_after (unlegged stops) r ≡ is_aboard_after stops r) rs
    each [] = tt
    each (r ∷ rs) = (aboard-unlegged (is_some r.picked) r.id stops, each rs)

-- loads after so many stops are the same whatever the legs
pub load-same : (rides : List Ride) (stops out : List Stop) (k : ℕ) → unlegged out ≡ unlegged stops
    → load_after rides (take k out) ≡ load_after rides (take k stops)
load-same rides stops out k same =
    sym (load-unlegged rides (take k out))
    ∙ ap (load_after rides) (sym (take-map (with_leg 0) k out) ∙ ap (take k) same ∙ take-map (with_leg 0) k stops)
    ∙ load-unlegged rides (take k stops)

pub length-same : (stops out : List Stop) → unlegged out ≡ unlegged stops → length out ≡ length stops
length-same stops out same = sym (length-map out (with_leg 0)) ∙ ap length same ∙ length-map stops (with_leg 0)

pub filter-kept : {X : Type 0} (p : X → Bool) (x : X) (xs : List X) → p x ≡ true → filter p (x ∷ xs) ≡ x ∷ filter p xs
filter-kept p x xs keeps = rw keeps refl

pub filter-skipped : {X : Type 0} (p : X → Bool) (x : X) (xs : List X) → p x ≡ false → filter p (x ∷ xs) ≡ filter p xs
filter-skipped p x xs skips = rw skips refl

-- so many of the stops that a filter keeps are what it keeps of so many stops
pub take-filter : (p : Stop → Bool) (stops : List Stop) (k : ℕ) → k ≤ length (filter p stops)
    → (n : ℕ) × (n ≤ length stops) × (take k (filter p stops) ≡ filter p (take n stops))
take-filter p stops zero h = (0, omega arith, refl)
take-filter p [] (suc k) h = absurd (omega arith)
take-filter p (stop ∷ stops) (suc k) h =
    elim (p stop) as (λ b. p stop ≡ b → suc k ≤ length (cond b (stop ∷ filter p stops) (filter p stops))
    → (n : ℕ) × (n ≤ suc (length stops)) × (take (suc k) (cond b (stop ∷ filter p stops) (filter p stops)) ≡ filter p (take n (stop ∷ stops)))) [
      | true ↦ λ keeps below.
          let (n, few, is) = take-filter p stops k (omega arith) in
          (suc n, omega arith, ap (λ rest. stop ∷ rest) is ∙ sym (filter-kept p stop (take n stops) keeps))
      | false ↦ λ skips below.
          let (n, few, is) = take-filter p stops (suc k) below in
          (suc n, omega arith, is ∙ sym (filter-skipped p stop (take n stops) skips))
    ] refl h

-- whether another ride is aboard does not depend on the stops that are taken out
pub aboard-without : (aboard : Bool) (id other : ℕ) (stops : List Stop) → eqb other id ≡ false
    → is_aboard_from aboard other (stops_without id stops) ≡ is_aboard_from aboard other stops
aboard-without aboard id other [] differ = refl
aboard-without aboard id other (stop ∷ stops) differ =
    elim (eqb stop.ride id) as (λ b. eqb stop.ride id ≡ b
    → is_aboard_from aboard other (cond (not b) (stop ∷ stops_without id stops) (stops_without id stops)) ≡ is_aboard_from aboard other (stop ∷ stops)) [
      | true ↦ λ is. rw (eqb-other stop.ride id other (eqb-true stop.ride id is) differ) (aboard-without aboard id other stops differ)
      | false ↦ λ is. aboard-without (cond (eqb stop.ride other) (is_pickup stop.kind) aboard) id other stops differ
    ] refl

pub load-without : (id : ℕ) (rides : List Ride) (stops : List Stop)
    → load_after (rides_without id rides) (stops_without id stops) ≡ load_after (rides_without id rides) stops
load-without id rides stops = load-agrees (rides_without id rides) (stops_without id stops) stops (each rides)
  where
    each : (rs : List Ride) → AllByRecursion (λ (r : Ride). is_aboard_after (stops_without id stops) r ≡ is_aboard_after stops r) (rides_without id rs)
    each [] = tt
    each (r ∷ rs) =
        elim (eqb r.id id) as (λ b. eqb r.id id ≡ b
        → AllByRecursion (λ (q : Ride). is_aboard_after (stops_without id stops) q ≡ is_aboard_after stops q) (cond (not b) (r ∷ rides_without id rs) (rides_without id rs))) [
          | true ↦ λ _. each rs
          | false ↦ λ other. (aboard-without (is_some r.picked) id r.id stops other, each rs)
        ] refl

-- a sum over what a filter keeps is not more
pub sum_by-filter-le : {X : Type 0} (p : X → Bool) (f : X → ℕ) (xs : List X) → sum_by f (filter p xs) ≤ sum_by f xs
sum_by-filter-le p f [] = omega arith
sum_by-filter-le p f (x ∷ xs) =
    elim (p x) as (λ b. sum_by f (cond b (x ∷ filter p xs) (filter p xs)) ≤ sum_by f (x ∷ xs)) [
      | true ↦ omega (arith, sum_by-filter-le p f xs, sum_by-cons f x xs, sum_by-cons f x (filter p xs))
      | false ↦ omega (arith, sum_by-filter-le p f xs, sum_by-cons f x xs)
    ]

-- a lesser load fits too
pub fits-lesser : (v : Vehicle) (a b : Load) → a.seats ≤ b.seats → a.chairs ≤ b.chairs → fits_load v b ≡ true → fits_load v a ≡ true
fits-lesser v a b less_seats less_chairs fits =
    let (seats, chairs) = and_parts (leb b.seats v.seats) (leb b.chairs v.chairs) fits in
    and_from (leb a.seats v.seats) (leb a.chairs v.chairs)
    (le-leb a.seats v.seats (omega (arith, leb-true b.seats v.seats seats)))
    (le-leb a.chairs v.chairs (omega (arith, leb-true b.chairs v.chairs chairs)))

-- the loads fit without a ride
pub fits-without : (v : Vehicle) (id : ℕ) (out : List Stop) → unlegged out ≡ unlegged (stops_without id v.stops.items)
    → FitsThroughout (fits_load v) v.rides.items v.stops.items → FitsThroughout (fits_load v) (rides_without id v.rides.items) out
fits-without v id out same fits k few =
    let left = stops_without id v.stops.items in
    let (n, within, is) = take-filter (λ (s : Stop). not (s.ride == id)) v.stops.items k (omega (arith, length-same left out same)) in
    let rides = rides_without id v.rides.items in
    let loads : load_after rides (take k out) ≡ load_after rides (take n v.stops.items)
    = load-same rides left out k same ∙ ap (load_after rides) is ∙ load-without id v.rides.items (take n v.stops.items) in
    subst (λ l. fits_load v l ≡ true) (sym loads) (fits-lesser v (load_after rides (take n v.stops.items)) (load_after v.rides.items (take n v.stops.items))
    (sum_by-filter-le _ _ v.rides.items) (sum_by-filter-le _ _ v.rides.items) (fits n within))
