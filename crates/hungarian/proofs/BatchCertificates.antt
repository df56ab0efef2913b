-- A batch's certificate, from that of the pairing of its requests and vehicles.
use Rattle.hungarian.proofs.Common.{◌≡◌, ℕ, ◌+◌, ◌<◌, ◌≤◌, ◌⊎◌, inl, inr, true, List, length, get_or, eqb, refl, sym, ◌∙◌, ap, subst, arith, map, All, Option, Some, None, is_some, IfSome, IsSomeAnd, option_map, range_with_len, sum_by, filter_map, IsDistinct, cases_eq, ne_eqb, eq-eqb, false≢true, length-map, get_or-map, All-from_recursion, fill_by_all, Offer, Seat, Ride, Vehicle, RoadMap, ride_ids, seat_of, BatchCopy, vehicle_ids, amount_ids, IsLeastSeating, Table, FitsBatch, IsTableOf, IsSeatAt, CertifiesOverCells, GridCells, cell_at, column_of, IsPairing, row_cost, pairing_cost, price_at, CertifiesPairing, item_of, StandsInOrder, row-of-column, each-range, map-map, cost_of, HasCosts, pay_at, pays_by, prices_by, seat_at, seats_by}
use Rattle.batch_commit.specs.inner.Table.{cell_at as offer_at}
use Rattle.dual_check.specs.inner.Costs.{cost_grid, seat_place, seat_columns, amount_alone, amounts_over}
use Rattle.dual_check.proofs.DifferentIds.{place-of-id}
use Rattle.dual_check.proofs.SeatCosts.{sum_by-agree}
use Rattle.dual_check.proofs.SeatPlaces.{cost-cell, AreSeats}
use Rattle.dual_check.proofs.SeatPairings.{certified-from-pairing}
use Rattle.dual_check.proofs.OverMaps.{least-over-map}
use Rattle.hungarian.proofs.Mated.{cases_mate}
use Rattle.hungarian.proofs.Gathering.{each-gathered, gathered-all, gathered-in_order}

-- a pairing is certified over any grid with the same cells
certified-same_cells : (table : Table) (grid : GridCells) (penalty : ℕ) (columns : List (Option ℕ)) (prices pays : List ℕ)
    → HasCosts table grid → CertifiesPairing grid penalty columns prices pays
    → CertifiesPairing (cost_grid table) penalty columns prices pays
certified-same_cells table grid penalty columns prices pays costs c =
    let same : (row column : ℕ) → row < table.rows → column < table.columns → cell_at grid row column
    ≡ cell_at (cost_grid table) row column
    = λ row column row_in column_in. costs.cells_are row column row_in column_in ∙ sym (cost-cell table row column) in
    let in_rows : (row column : ℕ) → column_of columns row ≡ Some column → row < table.rows
    = λ row column had. omega (arith, row-of-column columns row column had, c.paired.one_each, costs.rows_are) in
    let in_columns : (row column : ℕ) → column_of columns row ≡ Some column → column < table.columns
    = λ row column had. omega (arith, c.paired.in_grid row column had, costs.columns_are) in
    let cost_same : (row : ℕ) → row_cost grid penalty row (column_of columns row)
    ≡ row_cost (cost_grid table) penalty row (column_of columns row)
    = λ row. elim (cases_mate (column_of columns row)) [
      | inl none ↦ ap (row_cost grid penalty row) none ∙ ap (row_cost (cost_grid table) penalty row) (sym none)
      | inr some ↦
          let cell = same row some.0 (in_rows row some.0 some.1) (in_columns row some.0 some.1) in
          let here : row_cost grid penalty row (Some some.0) ≡ row_cost (cost_grid table) penalty row (Some some.0) =
          rw cell refl in
          ap (row_cost grid penalty row) some.1 ∙ here ∙ ap (row_cost (cost_grid table) penalty row) (sym some.1)
    ] in
    let cost : pairing_cost grid penalty columns ≡ pairing_cost (cost_grid table) penalty columns
    = ap (λ n. sum_by (λ row. row_cost grid penalty row (column_of columns row)) (range_with_len 0 n)) costs.rows_are
    ∙ sum_by-agree (λ row. row_cost grid penalty row (column_of columns row))
    (λ row. row_cost (cost_grid table) penalty row (column_of columns row))
    (range_with_len 0 table.rows)
    (each-range (λ row. row_cost grid penalty row (column_of columns row)
    ≡ row_cost (cost_grid table) penalty row (column_of columns row)) 0 table.rows
    (λ row _ _. cost_same row)) in
    record {
      paired = record {
        one_each = c.paired.one_each ∙ costs.rows_are;
        in_grid = in_columns;
        in_cells = λ row column had.
            ap is_some (sym (same row column (in_rows row column had) (in_columns row column had)))
            ∙ c.paired.in_cells row column had;
        columns_once = c.paired.columns_once;
      };
      prices_each = c.prices_each ∙ costs.rows_are;
      pays_each = c.pays_each ∙ costs.columns_are;
      capped = c.capped;
      covered = λ row column row_in column_in.
          subst (λ o. IfSome o (λ amount. price_at prices row ≤ amount + price_at pays column)) (same row column row_in column_in)
          (c.covered row column (omega (arith, row_in, costs.rows_are)) (omega (arith, column_in, costs.columns_are)));
      balanced = omega (arith, c.balanced, cost);
    }

-- a cell with a cost has an offer
offer-of_cost : (o : Option Offer) → is_some (cost_of o) ≡ is_some o
offer-of_cost None = refl
offer-of_cost (Some offer) = refl

-- what passes the test is there
some-from-test : {A : Type 0} (o : Option A) → is_some o ≡ true → (x : A) × (o ≡ Some x)
some-from-test None h = absurd (false≢true h)
some-from-test (Some x) h = (x, refl)

-- a seat of a row is of the row's request
seat-request : (table : Table) (requests fleet : List ℕ) (row : ℕ) (o : Option ℕ)
    → IfSome (seat_at table requests fleet row o) (λ (seat : Seat). seat.request ≡ get_or requests row 0)
seat-request table requests fleet row None = tt
seat-request table requests fleet row (Some column) =
    elim (offer_at table row column)
    as (λ cell. IfSome (option_map (λ (offer : Offer). seat_by offer) cell)
    (λ (seat : Seat). seat.request ≡ get_or requests row 0)) [
      | None ↦ tt
      | Some offer ↦ refl
    ]
  where
    seat_by : Offer → Seat
    seat_by offer = record { request = get_or requests row 0; vehicle = get_or fleet column 0; i = offer.i; j = offer.j }

-- the seat of a row with a column, by the offer in their cell
record RowSeat (table : Table) (requests fleet : List ℕ) (columns : List (Option ℕ)) (row column : ℕ) : Type 0 where
  pub offer : Offer
  pub offered : offer_at table row column ≡ Some offer
  pub row_in : row < table.rows
  pub column_in : column < table.columns
  pub seated : seat_at table requests fleet row (column_of columns row)
      ≡ Some (record { request = get_or requests row 0; vehicle = get_or fleet column 0; i = offer.i; j = offer.j })

-- each row with a column has a seat
row-seat : (table : Table) (requests fleet : List ℕ) (columns : List (Option ℕ)) (row column : ℕ)
    → IsPairing (cost_grid table) columns
    → column_of columns row ≡ Some column → RowSeat table requests fleet columns row column
row-seat table requests fleet columns row column paired had =
    let test : is_some (offer_at table row column) ≡ true
    = sym (offer-of_cost (offer_at table row column)) ∙ ap is_some (sym (cost-cell table row column))
    ∙ paired.in_cells row column had in
    let (offer, offered) = some-from-test (offer_at table row column) test in
    let by = λ (cell : Option Offer). option_map (λ (o : Offer). seat_with o) cell in
    record {
      offer = offer;
      offered = offered;
      row_in = omega (arith, row-of-column columns row column had, paired.one_each);
      column_in = paired.in_grid row column had;
      seated = ap (seat_at table requests fleet row) had ∙ ap by offered;
    }
  where
    seat_with : Offer → Seat
    seat_with o = record { request = get_or requests row 0; vehicle = get_or fleet column 0; i = o.i; j = o.j }

-- what a column pays, as its vehicle's payment
pub pay-cases : (vehicle amount : ℕ) → ((amount ≡ 0) × (pay_at vehicle amount ≡ None))
    ⊎ ((1 ≤ amount) × (pay_at vehicle amount ≡ Some (vehicle, amount)))
pay-cases vehicle amount = elim (cases_eq amount 0) [
  | inl none ↦ inl (none, rw (eq-eqb amount 0 none) refl)
  | inr some ↦ inr (omega (arith, some), rw (ne_eqb amount 0 some) refl)
]

-- it is of the vehicle
pay-vehicle : (vehicle amount : ℕ) → IfSome (pay_at vehicle amount) (λ (item : ℕ × ℕ). item.0 ≡ vehicle)
pay-vehicle vehicle amount = elim (pay-cases vehicle amount) [
  | inl none ↦ subst (λ o. IfSome o (λ (item : ℕ × ℕ). item.0 ≡ vehicle)) (sym none.1) tt
  | inr some ↦ subst (λ o. IfSome o (λ (item : ℕ × ℕ). item.0 ≡ vehicle)) (sym some.1) refl
]

-- it is above 0
pay-above : (vehicle amount : ℕ) → IfSome (pay_at vehicle amount) (λ (item : ℕ × ℕ). 1 ≤ item.1)
pay-above vehicle amount = elim (pay-cases vehicle amount) [
  | inl none ↦ subst (λ o. IfSome o (λ (item : ℕ × ℕ). 1 ≤ item.1)) (sym none.1) tt
  | inr some ↦ subst (λ o. IfSome o (λ (item : ℕ × ℕ). 1 ≤ item.1)) (sym some.1) some.0
]

-- it is the amount, 0 where there is none
pub pay-amount : (vehicle amount : ℕ) → amount_alone (pay_at vehicle amount) ≡ amount
pay-amount vehicle amount = elim (pay-cases vehicle amount) [
  | inl none ↦ ap amount_alone none.1 ∙ sym none.0
  | inr some ↦ ap amount_alone some.1
]

-- a batch with a pairing of its requests and vehicles that prices certify
record IsPaired (batch : BatchCopy) (table : Table) (columns : List (Option ℕ)) (us ps : List ℕ) : Type 0 where
  pub fits : FitsBatch batch table
  pub requests_differ : IsDistinct eqb (ride_ids batch.requests)
  pub vehicles_differ : IsDistinct eqb (vehicle_ids batch.vehicles)
  pub certified : CertifiesPairing (cost_grid table) batch.settings.penalty columns us ps

module _ (batch : BatchCopy) (table : Table) (columns : List (Option ℕ)) (us ps : List ℕ)
    (p : IsPaired batch table columns us ps) where
  abbrev requests : List ℕ
  requests = ride_ids batch.requests

  abbrev fleet : List ℕ
  fleet = vehicle_ids batch.vehicles

  abbrev seat_of_row : ℕ → Option Seat
  seat_of_row row = seat_at table requests fleet row (column_of columns row)

  abbrev seats : List Seat
  seats = seats_by table requests fleet columns (length batch.requests)

  abbrev prices : List (ℕ × ℕ)
  prices = prices_by requests us (length batch.requests)

  abbrev pays : List (ℕ × ℕ)
  pays = pays_by fleet ps (length batch.vehicles)

  all_requests : length requests ≡ length batch.requests
  all_requests = length-map batch.requests (λ (ride : Ride). ride.id)

  all_vehicles : length fleet ≡ length batch.vehicles
  all_vehicles = length-map batch.vehicles (λ (v : Vehicle). v.id)

  -- seats stand in the requests' order, and each row's seat is that of its request
  seats-ordered : StandsInOrder (λ (seat : Seat). seat.request) requests seats
      × (map (seat_of seats) requests ≡ map seat_of_row (range_with_len 0 (length batch.requests)))
  seats-ordered =
      subst (λ n. StandsInOrder (λ (seat : Seat). seat.request) requests (filter_map seat_of_row (range_with_len 0 n))
      × (map (seat_of (filter_map seat_of_row (range_with_len 0 n))) requests ≡ map seat_of_row (range_with_len 0 n)))
      all_requests
      (gathered-in_order (λ (seat : Seat). seat.request) seat_of_row requests p.requests_differ
      (λ k low. seat-request table requests fleet k (column_of columns k)))

  -- their columns are the pairing's
  columns-of_seats : seat_columns requests fleet seats ≡ columns
  columns-of_seats =
      sym (map-map (seat_place fleet) (seat_of seats) requests)
      ∙ ap (map (seat_place fleet)) seats-ordered.1
      ∙ map-map (seat_place fleet) seat_of_row (range_with_len 0 (length batch.requests))
      ∙ sym (fill_by_all (λ k. seat_place fleet (seat_of_row k)) columns (length batch.requests) None
      (p.certified.paired.one_each ∙ p.fits.rows_are) (λ k low. place k))
    where
      place : (k : ℕ) → column_of columns k ≡ seat_place fleet (seat_of_row k)
      place k = elim (cases_mate (column_of columns k)) [
        | inl none ↦ none ∙ ap (λ o. seat_place fleet (seat_at table requests fleet k o)) (sym none)
        | inr some ↦
            let s = row-seat table requests fleet columns k some.0 p.certified.paired some.1 in
            let at = place-of-id fleet some.0 (get_or fleet some.0 0) p.vehicles_differ
            (omega (arith, s.column_in, p.fits.columns_are, all_vehicles)) refl in
            some.1 ∙ ap (λ c. Some c) (sym at) ∙ ap (seat_place fleet) (sym s.seated)
      ]

  -- each stands in its cell
  seats-in_cells : All (λ seat. (r : ℕ) × (c : ℕ) × IsSeatAt batch table seat r c) seats
  seats-in_cells =
      All-from_recursion (λ seat. (r : ℕ) × (c : ℕ) × IsSeatAt batch table seat r c) seats
      (each-gathered (λ seat. (r : ℕ) × (c : ℕ) × IsSeatAt batch table seat r c) seat_of_row 0 (length batch.requests)
      (λ k _ _. here k))
    where
      here : (k : ℕ) → IfSome (seat_of_row k) (λ seat. (r : ℕ) × (c : ℕ) × IsSeatAt batch table seat r c)
      here k = elim (cases_mate (column_of columns k)) [
        | inl none ↦ subst (λ o. IfSome (seat_at table requests fleet k o)
            (λ seat. (r : ℕ) × (c : ℕ) × IsSeatAt batch table seat r c)) (sym none) tt
        | inr some ↦
            let s = row-seat table requests fleet columns k some.0 p.certified.paired some.1 in
            let row_in : k < length batch.requests = omega (arith, s.row_in, p.fits.rows_are) in
            let column_in : some.0 < length batch.vehicles = omega (arith, s.column_in, p.fits.columns_are) in
            let at : IsSeatAt batch table
            (record { request = get_or requests k 0; vehicle = get_or fleet some.0 0; i = s.offer.i; j = s.offer.j }) k some.0
            = record {
              request_in = row_in;
              vehicle_in = column_in;
              request_is = λ ride. sym (get_or-map (λ (r : Ride). r.id) batch.requests k ride 0 row_in);
              vehicle_is = λ v. sym (get_or-map (λ (w : Vehicle). w.id) batch.vehicles some.0 v 0 column_in);
              places_are = subst (λ cell. IsSomeAnd cell (λ (offer : Offer). (offer.i ≡ s.offer.i) × (offer.j ≡ s.offer.j)))
                  (sym s.offered) (refl, refl);
            } in
            subst (λ o. IfSome o (λ seat. (r : ℕ) × (c : ℕ) × IsSeatAt batch table seat r c)) (sym s.seated) (k, some.0, at)
      ]

  -- each request is priced, with its row's price
  prices-each : amount_ids prices ≡ requests
  prices-each =
      map-map (λ (item : ℕ × ℕ). item.0) (λ row. (get_or requests row 0, get_or us row 0))
      (range_with_len 0 (length batch.requests))
      ∙ sym (fill_by_all (λ row. get_or requests row 0) requests (length batch.requests) 0 all_requests (λ k low. refl))

  prices-over : amounts_over requests prices ≡ us
  prices-over =
      let gathered = gathered-in_order (λ (item : ℕ × ℕ). item.0)
      (λ row. Some (get_or requests row 0, get_or us row 0)) requests p.requests_differ (λ k low. refl) in
      let each : map (item_of (λ (item : ℕ × ℕ). item.0) prices) requests
      ≡ map (λ row. Some (get_or requests row 0, get_or us row 0)) (range_with_len 0 (length batch.requests))
      = subst (λ xs. map (item_of (λ (item : ℕ × ℕ). item.0) xs) requests
      ≡ map (λ row. Some (get_or requests row 0, get_or us row 0)) (range_with_len 0 (length batch.requests)))
      (gathered-all (λ row. (get_or requests row 0, get_or us row 0)) (range_with_len 0 (length batch.requests)))
      (subst (λ n. map (item_of (λ (item : ℕ × ℕ). item.0)
      (filter_map (λ row. Some (get_or requests row 0, get_or us row 0)) (range_with_len 0 n))) requests
      ≡ map (λ row. Some (get_or requests row 0, get_or us row 0)) (range_with_len 0 n)) all_requests gathered.1) in
      sym (map-map amount_alone (item_of (λ (item : ℕ × ℕ). item.0) prices) requests)
      ∙ ap (map amount_alone) each
      ∙ map-map amount_alone (λ row. Some (get_or requests row 0, get_or us row 0)) (range_with_len 0 (length batch.requests))
      ∙ sym (fill_by_all (λ row. get_or us row 0) us (length batch.requests) 0 (p.certified.prices_each ∙ p.fits.rows_are)
      (λ k low. refl))

  abbrev pay_of_column : ℕ → Option (ℕ × ℕ)
  pay_of_column column = pay_at (get_or fleet column 0) (get_or ps column 0)

  -- payments stand in the fleet's order, each above 0, and each column's payment is its vehicle's
  pays-ordered : StandsInOrder (λ (item : ℕ × ℕ). item.0) fleet pays
      × (map (item_of (λ (item : ℕ × ℕ). item.0) pays) fleet ≡ map pay_of_column (range_with_len 0 (length batch.vehicles)))
  pays-ordered =
      subst (λ n. StandsInOrder (λ (item : ℕ × ℕ). item.0) fleet (filter_map pay_of_column (range_with_len 0 n))
      × (map (item_of (λ (item : ℕ × ℕ). item.0) (filter_map pay_of_column (range_with_len 0 n))) fleet
      ≡ map pay_of_column (range_with_len 0 n))) all_vehicles
      (gathered-in_order (λ (item : ℕ × ℕ). item.0) pay_of_column fleet p.vehicles_differ
      (λ k low. pay-vehicle (get_or fleet k 0) (get_or ps k 0)))

  pays-paid : All (λ (item : ℕ × ℕ). 1 ≤ item.1) pays
  pays-paid =
      All-from_recursion (λ (item : ℕ × ℕ). 1 ≤ item.1) pays
      (each-gathered (λ (item : ℕ × ℕ). 1 ≤ item.1) pay_of_column 0 (length batch.vehicles)
      (λ k _ _. pay-above (get_or fleet k 0) (get_or ps k 0)))

  pays-over : amounts_over fleet pays ≡ ps
  pays-over =
      sym (map-map amount_alone (item_of (λ (item : ℕ × ℕ). item.0) pays) fleet)
      ∙ ap (map amount_alone) pays-ordered.1
      ∙ map-map amount_alone pay_of_column (range_with_len 0 (length batch.vehicles))
      ∙ sym (fill_by_all (λ k. amount_alone (pay_of_column k)) ps (length batch.vehicles) 0
      (p.certified.pays_each ∙ p.fits.columns_are)
      (λ k low. sym (pay-amount (get_or fleet k 0) (get_or ps k 0))))

  are_seats : AreSeats batch table seats
  are_seats = record {
    fits = p.fits;
    requests_differ = p.requests_differ;
    vehicles_differ = p.vehicles_differ;
    in_cells = seats-in_cells;
  }

  batch-certified : CertifiesOverCells batch table seats prices pays
  batch-certified =
      certified-from-pairing batch table seats prices pays are_seats seats-ordered.0 prices-each pays-ordered.0 pays-paid
      (subst (λ cs. CertifiesPairing (cost_grid table) batch.settings.penalty cs (amounts_over requests prices)
      (amounts_over fleet pays)) (sym columns-of_seats)
      (subst (λ xs. CertifiesPairing (cost_grid table) batch.settings.penalty columns xs (amounts_over fleet pays))
      (sym prices-over)
      (subst (λ xs. CertifiesPairing (cost_grid table) batch.settings.penalty columns us xs) (sym pays-over) p.certified)))

-- What a batch's requests and vehicles, its costs and their pairing make certifies the batch's seating.
pub solved-certified : (batch : BatchCopy) (table : Table) (grid : GridCells) (requests : List Ride) (vehicles : List Vehicle)
    (columns : List (Option ℕ)) (us ps : List ℕ) (penalty : ℕ) (seats : List Seat) (prices pays : List (ℕ × ℕ))
    → FitsBatch batch table → IsDistinct eqb (ride_ids batch.requests) → IsDistinct eqb (vehicle_ids batch.vehicles)
    → HasCosts table grid → penalty ≡ batch.settings.penalty → CertifiesPairing grid penalty columns us ps
    → requests ≡ batch.requests → vehicles ≡ batch.vehicles
    → seats ≡ seats_by table (ride_ids requests) (vehicle_ids vehicles) columns (length requests)
    → prices ≡ prices_by (ride_ids requests) us (length requests)
    → pays ≡ pays_by (vehicle_ids vehicles) ps (length vehicles)
    → CertifiesOverCells batch table seats prices pays
solved-certified batch table grid requests vehicles columns us ps penalty seats prices pays fits requests_differ vehicles_differ
    costs penalty_is certified requests_are vehicles_are seats_are prices_are pays_are =
    let paired : IsPaired batch table columns us ps = record {
      fits = fits;
      requests_differ = requests_differ;
      vehicles_differ = vehicles_differ;
      certified = certified-same_cells table grid batch.settings.penalty columns us ps costs
          (subst (λ n. CertifiesPairing grid n columns us ps) penalty_is certified);
    } in
    let seats_is = seats_are
    ∙ ap (λ (rs : List Ride). seats_by table (ride_ids rs) (vehicle_ids vehicles) columns (length rs)) requests_are
    ∙ ap (λ vs. seats_by table (ride_ids batch.requests) (vehicle_ids vs) columns (length batch.requests)) vehicles_are in
    let prices_is = prices_are ∙ ap (λ (rs : List Ride). prices_by (ride_ids rs) us (length rs)) requests_are in
    let pays_is = pays_are ∙ ap (λ (vs : List Vehicle). pays_by (vehicle_ids vs) ps (length vs)) vehicles_are in
    subst (λ xs. CertifiesOverCells batch table xs prices pays) (sym seats_is)
    (subst (λ xs. CertifiesOverCells batch table
    (seats_by table (ride_ids batch.requests) (vehicle_ids batch.vehicles) columns (length batch.requests)) xs pays)
    (sym prices_is)
    (subst (λ xs. CertifiesOverCells batch table
    (seats_by table (ride_ids batch.requests) (vehicle_ids batch.vehicles) columns (length batch.requests))
    (prices_by (ride_ids batch.requests) us (length batch.requests)) xs) (sym pays_is)
    (batch-certified batch table columns us ps paired)))

-- what is certified is least over each map over which the table is the batch's
pub solved-least : (batch : BatchCopy) (table : Table) (seats : List Seat) (prices pays : List (ℕ × ℕ)) → FitsBatch batch table
    → IsDistinct eqb (ride_ids batch.requests) → IsDistinct eqb (vehicle_ids batch.vehicles)
    → CertifiesOverCells batch table seats prices pays
    → (roads : RoadMap) → IsTableOf roads batch table → IsLeastSeating roads batch seats
solved-least batch table seats prices pays fits requests_differ vehicles_differ certified roads of_map =
    least-over-map roads batch table seats prices pays of_map
    (record {
      fits = fits;
      requests_differ = requests_differ;
      vehicles_differ = vehicles_differ;
      in_cells =
          certified.seating.in_cells;
    })
    certified
