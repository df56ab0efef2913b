-- What a batch's seating costs, and its amounts, as sums over its requests and its fleet.
use Rattle.dual_check.proofs.Common.{◌≡◌, ℕ, ◌-◌, ◌*◌, ◌≤◌, inl, inr, true, not, List, [], ◌∷◌, length, get_or, eqb, refl, sym, ◌∙◌, ap, subst, arith, map, filter, sum, Some, None, unwrap_or, sum_by, range_with_len, AllByRecursion, IsDistinct, length-map, get_or-map, length-filter_both, sum_by-filter_both, fill_by_all, not-true, sum_by-cons, sum-map, Seat, Ride, ride_ids, seat_of, BatchCopy, vehicle_ids, has_seat, amount_ids, amount_of, has_amount, Among, sum-amounts, sum-amounts-le, sum_by-map, each-among, distinct-filter, Table, place_of, cell_cost, cells_cost, GridCells, cell_at, column_of, row_cost, pairing_cost, cost_grid, seat_place, seat_columns, amounts_over}
use Rattle.dual_check.proofs.DifferentIds.{place-of-id, not-found}
use Rattle.dual_check.proofs.SeatPlaces.{cost-cell, AreSeats, seat-of-request}
use Rattle.dual_check.proofs.CertifiedPairings.{each-range, each-kept, sum_by-times}

-- sums of terms that agree at each element
pub sum_by-agree : {X : Type 0} (f g : X → ℕ) (xs : List X) → AllByRecursion (λ x. f x ≡ g x) xs → sum_by f xs ≡ sum_by g xs
sum_by-agree f g [] h = refl
sum_by-agree f g (x ∷ xs) (first, rest) = omega (arith, first, sum_by-agree f g xs rest, sum_by-cons f x xs, sum_by-cons g x xs)

-- amounts of some of different ids, in their order, sum to those of all these ids
pub sum-amounts-over : (ids : List ℕ) (amounts : List (ℕ × ℕ)) → IsDistinct eqb ids
    → amount_ids amounts ≡ filter (has_amount amounts) ids
    → sum (amounts_over ids amounts) ≡ sum_by (λ (item : ℕ × ℕ). item.1) amounts
sum-amounts-over ids amounts distinct ordered =
    let over = sum-map (amount_of amounts) ids in
    let most = sum-amounts-le amounts ids distinct in
    let some_differ : IsDistinct eqb (amount_ids amounts)
    = subst (IsDistinct eqb) (sym ordered) (distinct-filter (has_amount amounts) ids distinct) in
    let least = subst (λ qs. sum_by (λ (item : ℕ × ℕ). item.1) amounts ≤ sum_by (amount_of amounts) qs) ordered
    (sum-amounts amounts some_differ) in
    let parts = sum_by-filter_both (has_amount amounts) (λ q. not (has_amount amounts q)) (λ _. refl) (amount_of amounts) ids in
    omega (arith, over, most, least, parts)

-- a row's cost with a column is the amount there, or 0
row-cost-some : (grid : GridCells) (penalty row column : ℕ)
    → row_cost grid penalty row (Some column) ≡ unwrap_or (cell_at grid row column) 0
row-cost-some grid penalty row column =
    elim (cell_at grid row column)
    as (λ o. cell_at grid row column ≡ o → row_cost grid penalty row (Some column) ≡ unwrap_or o 0) [
      | None ↦ λ is. rw is refl
      | Some amount ↦ λ is. rw is refl
    ] refl

-- what a request costs: its seat's cell, or the penalty
abbrev request_cost : BatchCopy → Table → List Seat → ℕ → ℕ
request_cost batch table seats id =
    row_cost (cost_grid table) batch.settings.penalty (place_of (ride_ids batch.requests) id)
    (seat_place (vehicle_ids batch.vehicles) (seat_of seats id))

-- the pairing of a seating costs what its requests cost
cost-by-requests : (batch : BatchCopy) (table : Table) (seats : List Seat) → AreSeats batch table seats
    → pairing_cost (cost_grid table) batch.settings.penalty
    (seat_columns (ride_ids batch.requests) (vehicle_ids batch.vehicles) seats)
    ≡ sum_by (request_cost batch table seats) (ride_ids batch.requests)
cost-by-requests batch table seats are =
    let requests = ride_ids batch.requests in
    let fleet = vehicle_ids batch.vehicles in
    let columns = seat_columns requests fleet seats in
    let penalty = batch.settings.penalty in
    let n = length requests in
    let rows : table.rows ≡ n
    = are.fits.rows_are ∙ sym (length-map batch.requests (λ (ride : Ride). ride.id)) in
    let by_row = sum_by-agree (λ r. row_cost (cost_grid table) penalty r (column_of columns r))
    (λ r. request_cost batch table seats (get_or requests r 0))
    (range_with_len 0 n)
    (each-range (λ r. row_cost (cost_grid table) penalty r (column_of columns r) ≡ request_cost batch table seats
    (get_or requests r 0)) 0 n
    (λ r _ low.
    ap (row_cost (cost_grid table) penalty r)
    (get_or-map (λ q. seat_place fleet (seat_of seats q)) requests r 0 None (omega (arith, low)))
    ∙ ap (λ p. row_cost (cost_grid table) penalty p (seat_place fleet (seat_of seats (get_or requests r 0))))
    (sym (place-of-id requests r (get_or requests r 0) are.requests_differ (omega (arith, low)) refl)))) in
    ap (λ m. sum_by (λ r. row_cost (cost_grid table) penalty r (column_of columns r)) (range_with_len 0 m)) rows
    ∙ by_row
    ∙ sym (sum_by-map (request_cost batch table seats) (λ r. get_or requests r 0) (range_with_len 0 n))
    ∙ ap (sum_by (request_cost batch table seats))
    (sym (fill_by_all (λ r. get_or requests r 0) requests n 0 refl (λ k low. refl)))

-- a seated request costs its seat's cell
seated-cost : (batch : BatchCopy) (table : Table) (seats : List Seat) (seat : Seat) → AreSeats batch table seats
    → IsDistinct eqb (map (λ (s : Seat). s.request) seats) → Among seat seats
    → request_cost batch table seats seat.request ≡ cell_cost batch table seat
seated-cost batch table seats seat are distinct among =
    let r = place_of (ride_ids batch.requests) seat.request in
    let c = place_of (vehicle_ids batch.vehicles) seat.vehicle in
    ap (λ o. row_cost (cost_grid table) batch.settings.penalty r (seat_place (vehicle_ids batch.vehicles) o))
    (seat-of-request seats seat distinct among)
    ∙ row-cost-some (cost_grid table) batch.settings.penalty r c
    ∙ ap (λ o. unwrap_or o 0) (cost-cell table r c)

-- the pairing of a seating over the cells costs what the seating costs
pub cost-of-seats : (batch : BatchCopy) (table : Table) (seats : List Seat) → AreSeats batch table seats
    → map (λ (seat : Seat). seat.request) seats ≡ filter (has_seat seats) (ride_ids batch.requests)
    → pairing_cost (cost_grid table) batch.settings.penalty
    (seat_columns (ride_ids batch.requests) (vehicle_ids batch.vehicles) seats)
    ≡ cells_cost batch table seats
cost-of-seats batch table seats are ordered =
    let requests = ride_ids batch.requests in
    let cost = request_cost batch table seats in
    let penalty = batch.settings.penalty in
    let without = filter (λ q. not (has_seat seats q)) requests in
    let distinct : IsDistinct eqb (map (λ (seat : Seat). seat.request) seats)
    = subst (IsDistinct eqb) (sym ordered) (distinct-filter (has_seat seats) requests are.requests_differ) in
    let parts = sum_by-filter_both (has_seat seats) (λ q. not (has_seat seats q)) (λ _. refl) cost requests in
    let lengths = length-filter_both (has_seat seats) (λ q. not (has_seat seats q)) (λ _. refl) requests in
    let seated = ap (sum_by cost) (sym ordered) ∙ sum_by-map cost (λ (seat : Seat). seat.request) seats
    ∙ sum_by-agree (λ (seat : Seat). cost seat.request) (cell_cost batch table) seats
    (each-among (λ (seat : Seat). cost seat.request ≡ cell_cost batch table seat) seats
    (λ seat among. seated-cost batch table seats seat are distinct among)) in
    let others = sum_by-times cost penalty without (each-kept (λ q. cost q ≡ penalty) (λ q. not (has_seat seats q)) requests
    (each-among (λ q. not (has_seat seats q) ≡ true → cost q ≡ penalty) requests (λ q _ none. unseated q none))) in
    let many : length (filter (has_seat seats) requests) ≡ length seats
    = ap length (sym ordered) ∙ length-map seats (λ (seat : Seat). seat.request) in
    let left : length without ≡ length batch.requests - length seats
    = omega (arith, lengths, many, length-map batch.requests (λ (ride : Ride). ride.id)) in
    let others_left : sum_by cost without ≡ penalty * (length batch.requests - length seats)
    = subst (λ n. sum_by cost without ≡ penalty * n) left others in
    omega (arith, cost-by-requests batch table seats are, parts, seated, others_left)
  where
    unseated : (q : ℕ) → not (has_seat seats q) ≡ true → request_cost batch table seats q ≡ batch.settings.penalty
    unseated q none =
        ap (λ o. row_cost (cost_grid table) batch.settings.penalty (place_of (ride_ids batch.requests) q)
        (seat_place (vehicle_ids batch.vehicles) o))
        (not-found (λ (seat : Seat). eqb seat.request q) seats (not-true (has_seat seats q) none))
