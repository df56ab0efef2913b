-- Where a batch's seats stand among its requests and its fleet.
use Rattle.dual_check.proofs.Common.{◌≡◌, ℕ, zero, suc, ◌+◌, ◌*◌, ◌<◌, List, [], ◌∷◌, length, get_or, eqb, refl, sym, ◌∙◌, ap, subst, arith, map, All, Option, Some, None, option_map, IsSomeAnd, IsDistinct, length-map, get_or-map, All-contains, eqb-true, Offer, Seat, Ride, Vehicle, IsFleet, ride_ids, seat_of, BatchCopy, vehicle_ids, Among, contains_from_among, found_among, Table, FitsBatch, IsSeatAt, place_of, cell_at, column_of, cost_grid, seat_place, seat_columns}
use Rattle.batch_commit.specs.inner.Table.{cell_at as offer_at}
use Rattle.dual_check.proofs.PairingParts.{row-of-column}
use Rattle.dual_check.proofs.DifferentIds.{place-of-id, find-id, id-at}

-- the cost in a cell
abbrev pub cost_in_cell : Option Offer → Option ℕ
cost_in_cell = option_map (λ (offer : Offer). offer.cost)

-- a cell of the costs is the cost in the table's cell
pub cost-cell : (table : Table) (r c : ℕ) → cell_at (cost_grid table) r c ≡ cost_in_cell (offer_at table r c)
cost-cell table r c = step table.cells (r * table.columns + c)
  where
    step : (cells : List (Option Offer)) (k : ℕ) → get_or (map cost_in_cell cells) k None ≡ cost_in_cell (get_or cells k None)
    step [] k = refl
    step (cell ∷ cells) zero = refl
    step (cell ∷ cells) (suc k) = step cells k

-- a seat's places in a batch: those of its request and of its vehicle, whose cell has an offer of the seat's places
pub record HasPlaces (batch : BatchCopy) (table : Table) (seat : Seat) : Type 0 where
  pub row : ℕ
  pub column : ℕ
  pub row_in : row < length batch.requests
  pub column_in : column < length batch.vehicles
  pub request_at : get_or (ride_ids batch.requests) row 0 ≡ seat.request
  pub vehicle_at : get_or (vehicle_ids batch.vehicles) column 0 ≡ seat.vehicle
  pub request_place : place_of (ride_ids batch.requests) seat.request ≡ row
  pub vehicle_place : place_of (vehicle_ids batch.vehicles) seat.vehicle ≡ column
  pub offered : IsSomeAnd (offer_at table row column) (λ (offer : Offer). (offer.i ≡ seat.i) × (offer.j ≡ seat.j))

-- a seat in a cell has its places, where requests and vehicles differ
pub places-of-seat : (batch : BatchCopy) (table : Table) (seat : Seat)
    → IsDistinct eqb (ride_ids batch.requests) → IsDistinct eqb (vehicle_ids batch.vehicles)
    → (r : ℕ) × (c : ℕ) × IsSeatAt batch table seat r c → HasPlaces batch table seat
places-of-seat batch table seat requests_differ vehicles_differ (r, c, stands) =
    let request_at = id-at (λ (ride : Ride). ride.id) batch.requests r seat.request stands.request_in stands.request_is in
    let vehicle_at = id-at (λ (v : Vehicle). v.id) batch.vehicles c seat.vehicle stands.vehicle_in stands.vehicle_is in
    record {
      row = r;
      column = c;
      row_in = stands.request_in;
      column_in = stands.vehicle_in;
      request_at = request_at;
      vehicle_at = vehicle_at;
      request_place = place-of-id (ride_ids batch.requests) r seat.request requests_differ
          (omega (arith, stands.request_in, length-map batch.requests (λ (ride : Ride). ride.id))) request_at;
      vehicle_place = place-of-id (vehicle_ids batch.vehicles) c seat.vehicle vehicles_differ
          (omega (arith, stands.vehicle_in, length-map batch.vehicles (λ (v : Vehicle). v.id))) vehicle_at;
      offered = stands.places_are;
    }

-- seats in a table's cells, of a batch of different requests and different vehicles
pub record AreSeats (batch : BatchCopy) (table : Table) (seats : List Seat) : Type 0 where
  pub fits : FitsBatch batch table
  pub requests_differ : IsDistinct eqb (ride_ids batch.requests)
  pub vehicles_differ : IsDistinct eqb (vehicle_ids batch.vehicles)
  pub in_cells : All (λ seat. (r : ℕ) × (c : ℕ) × IsSeatAt batch table seat r c) seats

-- seats of a batch whose vehicles are a fleet
pub seats-of-fleet : (batch : BatchCopy) (table : Table) (seats : List Seat) (vehicles : List Vehicle) → FitsBatch batch table
    → IsDistinct eqb (ride_ids batch.requests) → vehicles ≡ batch.vehicles → IsFleet vehicles
    → All (λ seat. (r : ℕ) × (c : ℕ) × IsSeatAt batch table seat r c) seats → AreSeats batch table seats
seats-of-fleet batch table seats vehicles fits requests_differ vehicles_are fleet in_cells = record {
  fits = fits;
  requests_differ = requests_differ;
  vehicles_differ = subst (λ vs. IsDistinct eqb (vehicle_ids vs)) vehicles_are fleet.ids_differ;
  in_cells = in_cells;
}

-- the places of one of the seats
pub places-of : (batch : BatchCopy) (table : Table) (seats : List Seat) (seat : Seat) → AreSeats batch table seats
    → Among seat seats
    → HasPlaces batch table seat
places-of batch table seats seat are among =
    places-of-seat batch table seat are.requests_differ are.vehicles_differ
    (All-contains (λ s. (r : ℕ) × (c : ℕ) × IsSeatAt batch table s r c) seats seat are.in_cells
    (contains_from_among seats seat among))

-- the seat of a row with a column
pub record SeatOfRow (batch : BatchCopy) (seats : List Seat) (row column : ℕ) : Type 0 where
  pub seat : Seat
  pub among : Among seat seats
  pub row_in : row < length (ride_ids batch.requests)
  pub request_is : seat.request ≡ get_or (ride_ids batch.requests) row 0
  pub place_is : place_of (vehicle_ids batch.vehicles) seat.vehicle ≡ column

-- each row with a column has one
pub seat-of-row : (batch : BatchCopy) (seats : List Seat) (row column : ℕ)
    → column_of (seat_columns (ride_ids batch.requests) (vehicle_ids batch.vehicles) seats) row ≡ Some column
    → SeatOfRow batch seats row column
seat-of-row batch seats row column is =
    let requests = ride_ids batch.requests in
    let fleet = vehicle_ids batch.vehicles in
    let low : row < length requests
    = omega (
      arith,
      row-of-column (seat_columns requests fleet seats) row column is,
      length-map requests
          (λ id. seat_place fleet (seat_of seats id)),
    ) in
    let id = get_or requests row 0 in
    let here = sym (get_or-map (λ q. seat_place fleet (seat_of seats q)) requests row 0 None low) ∙ is in
    elim (seat_of seats id) as (λ o. seat_of seats id ≡ o → seat_place fleet o ≡ Some column → SeatOfRow batch seats row column) [
      | None ↦ λ _ none. absurd (cc none)
      | Some seat ↦ λ found at.
          let (among, request) = found_among (λ (s : Seat). eqb s.request id) seats seat found in
          record {
            seat = seat;
            among = among;
            row_in = low;
            request_is = eqb-true seat.request id request;
            place_is = cc at;
          }
    ] refl here

-- a seat of different requests is that of its request
pub seat-of-request : (seats : List Seat) (seat : Seat) → IsDistinct eqb (map (λ (s : Seat). s.request) seats) → Among seat seats
    → seat_of seats seat.request ≡ Some seat
seat-of-request seats seat distinct among =
    let (k, low, is) = contains_from_among seats seat among in
    find-id (λ (s : Seat). s.request) seats k seat.request seat distinct low (ap (λ (s : Seat). s.request) is)
    ∙ ap (λ s. Some s) is

-- the column of a seat's row is the place of its vehicle
pub column-of-seat : (batch : BatchCopy) (seats : List Seat) (seat : Seat) (row : ℕ)
    → IsDistinct eqb (map (λ (s : Seat). s.request) seats) → Among seat seats
    → row < length batch.requests → get_or (ride_ids batch.requests) row 0 ≡ seat.request
    → column_of (seat_columns (ride_ids batch.requests) (vehicle_ids batch.vehicles) seats) row
    ≡ Some (place_of (vehicle_ids batch.vehicles) seat.vehicle)
column-of-seat batch seats seat row distinct among low is =
    let requests = ride_ids batch.requests in
    let fleet = vehicle_ids batch.vehicles in
    get_or-map (λ q. seat_place fleet (seat_of seats q)) requests row 0 None
    (omega (arith, low, length-map batch.requests (λ (ride : Ride). ride.id)))
    ∙ ap (λ q. seat_place fleet (seat_of seats q)) is
    ∙ ap (seat_place fleet) (seat-of-request seats seat distinct among)
