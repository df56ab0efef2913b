-- How many of the first elements a test keeps, and elements of different ids.
use Rattle.board_core.proofs.Common.{◌≡◌, ℕ, ◌*◌, ◌≤◌, Bool, List, [], ◌∷◌, length, length-take, take, eqb, refl, sym, ap, subst, arith, map, All, filter, IsDistinct, AllByRecursion, sum_by, length-map, recursion_from_All, sum_by-cons, Ride, AcceptedRequest, is_waiting, ride_ids, amount_ids, waiting_of, distinct-filter_by, distinct-take_by, length-filter-le}

-- a test keeps no more of the first elements than there are
pub few-kept : {X Y : Type 0} → (f : X → Y) (p : X → Bool) (xs : List X) (many : ℕ) → length (map f (filter p (take many xs))) ≤ many
few-kept f p xs many = omega (arith, length-map (filter p (take many xs)) f, length-filter-le p (take many xs), length-take many xs)

-- the ids of the rides of requests
ids-of_rides : (requests : List AcceptedRequest) → ride_ids (map (λ (r : AcceptedRequest). r.ride) requests) ≡ map (λ (r : AcceptedRequest). r.ride.id) requests
ids-of_rides [] = refl
ids-of_rides (r ∷ requests) = ap (λ ids. r.ride.id ∷ ids) (ids-of_rides requests)

-- the first requests that wait differ
pub distinct-waiting : (requests : List AcceptedRequest) (most : ℕ) → IsDistinct eqb (map (λ (r : AcceptedRequest). r.ride.id) requests)
    → IsDistinct eqb (ride_ids (take most (waiting_of requests)))
distinct-waiting requests most distinct =
    distinct-take_by (λ (ride : Ride). ride.id) most (waiting_of requests)
    (subst (IsDistinct eqb) (sym (ids-of_rides (filter (λ (r : AcceptedRequest). is_waiting r.state) requests)))
    (distinct-filter_by (λ (r : AcceptedRequest). r.ride.id) (λ (r : AcceptedRequest). is_waiting r.state) requests distinct))

-- amounts of at most 10^12 each
sum-capped : (amounts : List (ℕ × ℕ)) → AllByRecursion (λ (item : ℕ × ℕ). item.1 ≤ 1000000000000) amounts
    → sum_by (λ (item : ℕ × ℕ). item.1) amounts ≤ 1000000000000 * length amounts
sum-capped [] h = omega arith
sum-capped (item ∷ amounts) (first, rest) =
    omega (arith, first, sum-capped amounts rest, sum_by-cons (λ (i : ℕ × ℕ). i.1) item amounts)

-- prices of at most 128 requests, each at most a penalty
pub prices-below : (prices : List (ℕ × ℕ)) (rides : List Ride) (penalty : ℕ) → All (λ (item : ℕ × ℕ). item.1 ≤ penalty) prices
    → amount_ids prices ≡ ride_ids rides → penalty ≤ 1000000000000 → length rides ≤ 128
    → sum_by (λ (item : ℕ × ℕ). item.1) prices ≤ 128000000000000
prices-below prices rides penalty capped same limit few =
    omega (
      arith,
      sum-capped prices (each prices (recursion_from_All (λ (item : ℕ × ℕ). item.1 ≤ penalty) prices capped)),
      ap length same,
      length-map prices (λ (item : ℕ × ℕ). item.0),
      length-map rides (λ (ride : Ride). ride.id),
      few,
    )
  where
    each : (xs : List (ℕ × ℕ)) → AllByRecursion (λ (item : ℕ × ℕ). item.1 ≤ penalty) xs → AllByRecursion (λ (item : ℕ × ℕ). item.1 ≤ 1000000000000) xs
    each [] h = tt
    each (x ∷ xs) (first, rest) = (omega (arith, first, limit), each xs rest)
