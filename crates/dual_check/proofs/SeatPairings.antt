-- A batch's certificate is that of a pairing of its table's costs.
use Rattle.dual_check.proofs.Common.{◌≡◌, ℕ, ◌+◌, ◌<◌, ◌≤◌, List, length, get_or, eqb, refl, sym, ◌∙◌, ap, subst, arith, map, filter, sum, All, Option, Some, None, option_map, unwrap_or, IsSome, IfSome, IsSomeAnd, IsDistinct, length-map, get_or-map, ext_get_or, All-map, Contains-get_or, sum-map, ne_eqb, IsDistinct-from_apart, Offer, Seat, Ride, Vehicle, ride_ids, seat_of, BatchCopy, vehicle_ids, has_seat, amount_ids, amount_of, has_amount, Among, among_from_contains, contains_from_among, distinct-filter, Table, place_of, CertifiesOverCells, cell_at, IsPairing, CertifiesPairing, price_at, cost_grid, seat_place, seat_columns, amounts_over}
use Rattle.batch_commit.specs.inner.Table.{cell_at as offer_at}
use Rattle.dual_check.proofs.DifferentIds.{same-place, find-id, element}
use Rattle.dual_check.proofs.SeatPlaces.{cost_in_cell, cost-cell, AreSeats, places-of, seat-of-row, column-of-seat}
use Rattle.dual_check.proofs.SeatCosts.{sum-amounts-over, cost-of-seats}

-- a fact of an image that is there
if-image : {X Y : Type 0} (f : X → Y) (P : Y → Type 0) (o : Option X) → IfSome (option_map f o) P → IfSome o (λ x. P (f x))
if-image f P None h = tt
if-image f P (Some x) h = h

-- and the way back
image-if : {X Y : Type 0} (f : X → Y) (P : Y → Type 0) (o : Option X) → IfSome o (λ x. P (f x)) → IfSome (option_map f o) P
image-if f P None h = tt
image-if f P (Some x) h = h

-- a seat, where one is needed past the end of a list
no_seat : Seat
no_seat = record { request = 0; vehicle = 0; i = 0; j = 0 }

-- the requests of a seating that stands in the batch's order differ
seated-requests-differ : (batch : BatchCopy) (seats : List Seat) → IsDistinct eqb (ride_ids batch.requests)
    → map (λ (seat : Seat). seat.request) seats ≡ filter (has_seat seats) (ride_ids batch.requests)
    → IsDistinct eqb (map (λ (seat : Seat). seat.request) seats)
seated-requests-differ batch seats distinct ordered =
    subst (IsDistinct eqb) (sym ordered) (distinct-filter (has_seat seats) (ride_ids batch.requests) distinct)

-- seats of a pairing have different vehicles
vehicles-differ : (batch : BatchCopy) (table : Table) (seats : List Seat) → AreSeats batch table seats
    → map (λ (seat : Seat). seat.request) seats ≡ filter (has_seat seats) (ride_ids batch.requests)
    → IsPairing (cost_grid table) (seat_columns (ride_ids batch.requests) (vehicle_ids batch.vehicles) seats)
    → IsDistinct eqb (map (λ (seat : Seat). seat.vehicle) seats)
vehicles-differ batch table seats are ordered paired =
    IsDistinct-from_apart eqb vehicles (λ i j d before j_in.
    let second : j < length seats = omega (arith, j_in, length-map seats (λ (seat : Seat). seat.vehicle)) in
    let first : i < length seats = omega (arith, before, second) in
    ne_eqb (get_or vehicles i d) (get_or vehicles j d)
    (λ same. apart i j before first second
    (sym (get_or-map (λ (seat : Seat). seat.vehicle) seats i no_seat d first) ∙ same
    ∙ get_or-map (λ (seat : Seat). seat.vehicle) seats j no_seat d second)))
  where
    vehicles : List ℕ
    vehicles = map (λ (seat : Seat). seat.vehicle) seats

    distinct : IsDistinct eqb (map (λ (seat : Seat). seat.request) seats)
    distinct = seated-requests-differ batch seats are.requests_differ ordered

    among : (k : ℕ) → k < length seats → Among (get_or seats k no_seat) seats
    among k low = among_from_contains seats (get_or seats k no_seat) (Contains-get_or seats k no_seat low)

    apart : (i j : ℕ) → i < j → i < length seats → j < length seats
        → (get_or seats i no_seat).vehicle ≡ (get_or seats j no_seat).vehicle → ⊥
    apart i j before i_in j_in same =
        let one = get_or seats i no_seat in
        let two = get_or seats j no_seat in
        let at_one = places-of batch table seats one are (among i i_in) in
        let at_two = places-of batch table seats two are (among j j_in) in
        let one_is = column-of-seat batch seats one at_one.row distinct (among i i_in) at_one.row_in at_one.request_at in
        let two_is = column-of-seat batch seats two at_two.row distinct (among j j_in) at_two.row_in at_two.request_at in
        let rows : at_one.row ≡ at_two.row
        = paired.columns_once at_one.row at_two.row (place_of (vehicle_ids batch.vehicles) one.vehicle) one_is
        (two_is ∙ ap (λ v. Some (place_of (vehicle_ids batch.vehicles) v)) (sym same)) in
        let requests_same : one.request ≡ two.request
        = sym at_one.request_at ∙ ap (λ r. get_or (ride_ids batch.requests) r 0) rows ∙ at_two.request_at in
        omega (
          arith,
          before,
          same-place (map (λ (seat : Seat). seat.request) seats) i j distinct
              (omega (arith, i_in, length-map seats (λ (seat : Seat). seat.request)))
              (omega (arith, j_in, length-map seats (λ (seat : Seat). seat.request)))
              (get_or-map (λ (seat : Seat). seat.request) seats i no_seat 0 i_in ∙ requests_same
              ∙ sym (get_or-map (λ (seat : Seat). seat.request) seats j no_seat 0 j_in)),
        )

-- of different vehicles, seats of one vehicle are of one request
one-request : (seats : List Seat) (one two : Seat) → IsDistinct eqb (map (λ (seat : Seat). seat.vehicle) seats)
    → Among one seats → Among two seats → one.vehicle ≡ two.vehicle → one.request ≡ two.request
one-request seats one two distinct one_there two_there same =
    let (k, k_in, k_is) = contains_from_among seats one one_there in
    let (n, n_in, n_is) = contains_from_among seats two two_there in
    let places : k ≡ n
    = same-place (map (λ (seat : Seat). seat.vehicle) seats) k n distinct
    (omega (arith, k_in, length-map seats (λ (seat : Seat). seat.vehicle)))
    (omega (arith, n_in, length-map seats (λ (seat : Seat). seat.vehicle)))
    (get_or-map (λ (seat : Seat). seat.vehicle) seats k one 0 k_in ∙ ap (λ (seat : Seat). seat.vehicle) k_is ∙ same
    ∙ sym (get_or-map (λ (seat : Seat). seat.vehicle) seats n two 0 n_in ∙ ap (λ (seat : Seat). seat.vehicle) n_is)) in
    sym (get_or-map (λ (seat : Seat). seat.request) seats k one 0 k_in ∙ ap (λ (seat : Seat). seat.request) k_is)
    ∙ ap (λ p. get_or (map (λ (seat : Seat). seat.request) seats) p 0) places
    ∙ (get_or-map (λ (seat : Seat). seat.request) seats n two 0 n_in ∙ ap (λ (seat : Seat). seat.request) n_is)

-- seats of different vehicles are a pairing of the costs
seats-paired : (batch : BatchCopy) (table : Table) (seats : List Seat) → AreSeats batch table seats
    → IsDistinct eqb (map (λ (seat : Seat). seat.vehicle) seats)
    → IsPairing (cost_grid table) (seat_columns (ride_ids batch.requests) (vehicle_ids batch.vehicles) seats)
seats-paired batch table seats are distinct = record {
  one_each = length-map requests (λ id. seat_place fleet (seat_of seats id))
      ∙ length-map batch.requests (λ (ride : Ride). ride.id)
      ∙ sym are.fits.rows_are;
  in_grid = λ row column is.
      let s = seat-of-row batch seats row column is in
      let at = places-of batch table seats s.seat are s.among in
      omega (arith, s.place_is, at.vehicle_place, at.column_in, are.fits.columns_are);
  in_cells = λ row column is.
      let s = seat-of-row batch seats row column is in
      let at = places-of batch table seats s.seat are s.among in
      let row_is : at.row ≡ row
      = same-place requests at.row row are.requests_differ
      (omega (arith, at.row_in, length-map batch.requests (λ (ride : Ride). ride.id)))
      s.row_in (at.request_at ∙ s.request_is) in
      let column_is : at.column ≡ column = sym at.vehicle_place ∙ s.place_is in
      subst (λ r. IsSome (cell_at (cost_grid table) r column)) row_is
      (subst (λ c. IsSome (cell_at (cost_grid table) at.row c)) column_is
      (subst IsSome (sym (cost-cell table at.row at.column)) (some-cost (offer_at table at.row at.column) s.seat at.offered)));
  columns_once = λ row other column row_is other_is.
      let s = seat-of-row batch seats row column row_is in
      let t = seat-of-row batch seats other column other_is in
      let at_s = places-of batch table seats s.seat are s.among in
      let at_t = places-of batch table seats t.seat are t.among in
      let columns : at_s.column ≡ at_t.column = sym at_s.vehicle_place ∙ s.place_is ∙ sym t.place_is ∙ at_t.vehicle_place in
      let vehicles : s.seat.vehicle ≡ t.seat.vehicle
      = sym at_s.vehicle_at ∙ ap (λ c. get_or fleet c 0) columns ∙ at_t.vehicle_at in
      same-place requests row other are.requests_differ s.row_in t.row_in
      (sym s.request_is ∙ one-request seats s.seat t.seat distinct s.among t.among vehicles ∙ t.request_is);
}
  where
    requests : List ℕ
    requests = ride_ids batch.requests

    fleet : List ℕ
    fleet = vehicle_ids batch.vehicles

    some-cost : (o : Option Offer) (seat : Seat) → IsSomeAnd o (λ (offer : Offer). (offer.i ≡ seat.i) × (offer.j ≡ seat.j))
        → IsSome (cost_in_cell o)
    some-cost None seat none = absurd none
    some-cost (Some offer) seat _ = refl

-- amounts of different ids, over these ids, are the amounts alone
prices-alone : (prices : List (ℕ × ℕ)) → IsDistinct eqb (amount_ids prices)
    → amounts_over (amount_ids prices) prices ≡ map (λ (item : ℕ × ℕ). item.1) prices
prices-alone prices distinct =
    ext_get_or 0 (amounts_over (amount_ids prices) prices) (map (λ (item : ℕ × ℕ). item.1) prices)
    (length-map (amount_ids prices) (amount_of prices) ∙ length-map prices (λ (item : ℕ × ℕ). item.0)
    ∙ sym (length-map prices (λ (item : ℕ × ℕ). item.1)))
    (λ k low.
    let in_ids : k < length (amount_ids prices) = omega (arith, low, length-map (amount_ids prices) (amount_of prices)) in
    let in_prices : k < length prices = omega (arith, in_ids, length-map prices (λ (item : ℕ × ℕ). item.0)) in
    let item = get_or prices k (0, 0) in
    get_or-map (amount_of prices) (amount_ids prices) k 0 0 in_ids
    ∙ ap (amount_of prices) (get_or-map (λ (i : ℕ × ℕ). i.0) prices k (0, 0) 0 in_prices)
    ∙ ap (λ o. unwrap_or (option_map (λ (i : ℕ × ℕ). i.1) o) 0)
    (find-id (λ (i : ℕ × ℕ). i.0) prices k item.0 (0, 0) distinct in_prices refl)
    ∙ sym (get_or-map (λ (i : ℕ × ℕ). i.1) prices k (0, 0) 0 in_prices))

-- the prices of all requests are the amounts alone
all-priced : (batch : BatchCopy) (prices : List (ℕ × ℕ)) → IsDistinct eqb (ride_ids batch.requests)
    → amount_ids prices ≡ ride_ids batch.requests
    → amounts_over (ride_ids batch.requests) prices ≡ map (λ (item : ℕ × ℕ). item.1) prices
all-priced batch prices distinct each_priced =
    ap (λ ids. amounts_over ids prices) (sym each_priced) ∙ prices-alone prices
    (subst (IsDistinct eqb) (sym each_priced) distinct)

-- an amount over ids at the place of an item
amount-at : {X : Type 0} (id_of : X → ℕ) (xs : List X) (amounts : List (ℕ × ℕ)) (k : ℕ) (d : X) → k < length xs
    → price_at (amounts_over (map id_of xs) amounts) k ≡ amount_of amounts (id_of (get_or xs k d))
amount-at id_of xs amounts k d low =
    get_or-map (amount_of amounts) (map id_of xs) k 0 0 (omega (arith, low, length-map xs id_of))
    ∙ ap (amount_of amounts) (get_or-map id_of xs k d 0 low)

-- what certifies the pairing of a seating certifies the seating
pub certified-from-pairing : (batch : BatchCopy) (table : Table) (seats : List Seat) (prices pays : List (ℕ × ℕ))
    → AreSeats batch table seats
    → map (λ (seat : Seat). seat.request) seats ≡ filter (has_seat seats) (ride_ids batch.requests)
    → amount_ids prices ≡ ride_ids batch.requests
    → amount_ids pays ≡ filter (has_amount pays) (vehicle_ids batch.vehicles)
    → All (λ (item : ℕ × ℕ). 1 ≤ item.1) pays
    → CertifiesPairing (cost_grid table) batch.settings.penalty
    (seat_columns (ride_ids batch.requests) (vehicle_ids batch.vehicles) seats)
    (amounts_over (ride_ids batch.requests) prices) (amounts_over (vehicle_ids batch.vehicles) pays)
    → CertifiesOverCells batch table seats prices pays
certified-from-pairing batch table seats prices pays are ordered each_priced paying paid certified = record {
  seating = record {
    in_order = ordered;
    vehicles_differ = vehicles-differ batch table seats are ordered certified.paired;
    in_cells = are.in_cells;
  };
  each_priced = each_priced;
  capped = λ k d low.
      let at = subst (All (λ price. price ≤ batch.settings.penalty)) alone certified.capped k 0
      (omega (arith, low, length-map prices (λ (item : ℕ × ℕ). item.1))) in
      subst (λ n. n ≤ batch.settings.penalty) (get_or-map (λ (item : ℕ × ℕ). item.1) prices k d 0 low) at;
  paying = paying;
  paid = paid;
  covered = λ r c ride v r_in c_in.
      let at = certified.covered r c (omega (arith, r_in, are.fits.rows_are)) (omega (arith, c_in, are.fits.columns_are)) in
      if-image (λ (offer : Offer). offer.cost)
      (λ cost. amount_of prices (get_or batch.requests r ride).id ≤ cost + amount_of pays (get_or batch.vehicles c v).id)
      (offer_at table r c)
      (subst (λ n. IfSome (cost_in_cell (offer_at table r c))
      (λ cost. amount_of prices (get_or batch.requests r ride).id ≤ cost + n))
      (amount-at (λ (w : Vehicle). w.id) batch.vehicles pays c v c_in)
      (subst (λ n. IfSome (cost_in_cell (offer_at table r c))
      (λ cost. n ≤ cost + price_at (amounts_over (vehicle_ids batch.vehicles) pays) c))
      (amount-at (λ (q : Ride). q.id) batch.requests prices r ride r_in)
      (subst (λ o. IfSome o (λ cost. price_at (amounts_over (ride_ids batch.requests) prices) r
      ≤ cost + price_at (amounts_over (vehicle_ids batch.vehicles) pays) c)) (cost-cell table r c) at)));
  balanced = omega (
    arith,
    certified.balanced,
    ap sum alone ∙ sum-map (λ (item : ℕ × ℕ). item.1) prices,
    sum-amounts-over (vehicle_ids batch.vehicles) pays are.vehicles_differ paying,
    cost-of-seats batch table seats are ordered,
  );
}
  where
    alone : amounts_over (ride_ids batch.requests) prices ≡ map (λ (item : ℕ × ℕ). item.1) prices
    alone = all-priced batch prices are.requests_differ each_priced

-- what certifies a seating certifies its pairing
pub pairing-from-certified : (batch : BatchCopy) (table : Table) (seats : List Seat) (prices pays : List (ℕ × ℕ))
    → AreSeats batch table seats
    → CertifiesOverCells batch table seats prices pays
    → CertifiesPairing (cost_grid table) batch.settings.penalty
    (seat_columns (ride_ids batch.requests) (vehicle_ids batch.vehicles) seats)
    (amounts_over (ride_ids batch.requests) prices) (amounts_over (vehicle_ids batch.vehicles) pays)
pairing-from-certified batch table seats prices pays are certified = record {
  paired = seats-paired batch table seats are certified.seating.vehicles_differ;
  prices_each = length-map (ride_ids batch.requests) (amount_of prices) ∙ length-map batch.requests (λ (ride : Ride). ride.id)
      ∙ sym are.fits.rows_are;
  pays_each = length-map (vehicle_ids batch.vehicles) (amount_of pays) ∙ length-map batch.vehicles (λ (v : Vehicle). v.id)
      ∙ sym are.fits.columns_are;
  capped = subst (All (λ price. price ≤ batch.settings.penalty)) (sym alone)
      (All-map (λ price. price ≤ batch.settings.penalty) (λ (item : ℕ × ℕ). item.1) prices certified.capped);
  covered = λ r c r_in c_in.
      let ride_in : r < length batch.requests = omega (arith, r_in, are.fits.rows_are) in
      let vehicle_in : c < length batch.vehicles = omega (arith, c_in, are.fits.columns_are) in
      let ride = element batch.requests r ride_in in
      let v = element batch.vehicles c vehicle_in in
      let at = image-if (λ (offer : Offer). offer.cost)
      (λ cost. amount_of prices (get_or batch.requests r ride).id ≤ cost + amount_of pays (get_or batch.vehicles c v).id)
      (offer_at table r c)
      (certified.covered r c ride v ride_in vehicle_in) in
      subst (λ o. IfSome o (λ cost. price_at (amounts_over (ride_ids batch.requests) prices) r
      ≤ cost + price_at (amounts_over (vehicle_ids batch.vehicles) pays) c)) (sym (cost-cell table r c))
      (subst (λ n. IfSome (cost_in_cell (offer_at table r c))
      (λ cost. n ≤ cost + price_at (amounts_over (vehicle_ids batch.vehicles) pays) c))
      (sym (amount-at (λ (q : Ride). q.id) batch.requests prices r ride ride_in))
      (subst (λ n. IfSome (cost_in_cell (offer_at table r c))
      (λ cost. amount_of prices (get_or batch.requests r ride).id ≤ cost + n))
      (sym (amount-at (λ (w : Vehicle). w.id) batch.vehicles pays c v vehicle_in)) at));
  balanced = omega (
    arith,
    certified.balanced,
    ap sum alone ∙ sum-map (λ (item : ℕ × ℕ). item.1) prices,
    sum-amounts-over (vehicle_ids batch.vehicles) pays are.vehicles_differ certified.paying,
    cost-of-seats batch table seats are certified.seating.in_order,
  );
}
  where
    alone : amounts_over (ride_ids batch.requests) prices ≡ map (λ (item : ℕ × ℕ). item.1) prices
    alone = all-priced batch prices are.requests_differ certified.each_priced
