-- Answers: seatings over a table's cells, the prices that certify them, and outcomes.
use Rattle.std.specs.Prelude.{◌≡◌, ℕ, ◌+◌, ◌-◌, ◌*◌, ◌<◌, ◌≤◌, ◌==◌, List, length, map, filter, sum_by, slice_index_or, All, Option, Some, None, option_map, option_and_then, unwrap_or, IfSome, IsSomeAnd, position, nat_eq}
use Rattle.std.specs.List.{IsDistinct}
use Rattle.ride_model.specs.declared.entry.Outcome.{Outcome}
use Rattle.ride_model.specs.declared.entry.Outcome.TheVariants.{Gone}
use Rattle.ride_model.specs.declared.offer.Offer.{Offer}
use Rattle.ride_model.specs.declared.offer.Seat.{Seat}
use Rattle.ride_model.specs.declared.vehicle.Ride.{Ride}
use Rattle.ride_model.specs.declared.vehicle.Vehicle.{Vehicle}
use Rattle.ride_model.specs.Vehicle.{ride_ids}
use Rattle.ride_model.specs.Seating.{BatchCopy, vehicle_ids, has_seat, amount_ids, amount_of, has_amount}
use Rattle.batch_commit.specs.inner.Table.{Table, cell_at, FitsBatch, HasSmallCosts}

-- a seat stands at the places r and c of its request and its vehicle in the batch, and has the places of their cell
pub record IsSeatAt (batch : BatchCopy) (table : Table) (seat : Seat) (r c : ℕ) : Type 0 where
  pub request_in : r < length batch.requests
  pub vehicle_in : c < length batch.vehicles
  pub request_is : (ride : Ride) → (slice_index_or batch.requests r ride).id ≡ seat.request
  pub vehicle_is : (v : Vehicle) → (slice_index_or batch.vehicles c v).id ≡ seat.vehicle
  pub places_are : IsSomeAnd (cell_at table r c) (λ (offer : Offer). (offer.i ≡ seat.i) × (offer.j ≡ seat.j))

-- a seating over the cells: as a seating of the batch, each seat with the places of its cell
pub record SeatsOverCells (batch : BatchCopy) (table : Table) (seats : List Seat) : Type 0 where
  pub in_order : map (λ (seat : Seat). seat.request) seats ≡ filter (has_seat seats) (ride_ids batch.requests)
  pub vehicles_differ : IsDistinct nat_eq (map (λ (seat : Seat). seat.vehicle) seats)
  pub in_cells : All (λ seat. (r : ℕ) × (c : ℕ) × IsSeatAt batch table seat r c) seats

-- the place of an id among ids
abbrev pub place_of : List ℕ → ℕ → ℕ
place_of ids id = unwrap_or (position (λ other. other == id) ids) 0

-- the cost of a seat by its cell
abbrev pub cell_cost : BatchCopy → Table → Seat → ℕ
cell_cost batch table seat =
    unwrap_or (option_map (λ (offer : Offer). offer.cost)
    (cell_at table (place_of (ride_ids batch.requests) seat.request) (place_of (vehicle_ids batch.vehicles) seat.vehicle))) 0

-- the cost of a seating by the cells
abbrev pub cells_cost : BatchCopy → Table → List Seat → ℕ
cells_cost batch table seats =
    sum_by (cell_cost batch table) seats + batch.settings.penalty * (length batch.requests - length seats)

-- prices and payments certify a seating over the cells, each cell's cost taken as its pair's price
pub record CertifiesOverCells (batch : BatchCopy) (table : Table) (seats : List Seat) (prices pays : List (ℕ × ℕ)) : Type 0 where
  pub seating : SeatsOverCells batch table seats
  pub each_priced : amount_ids prices ≡ ride_ids batch.requests
  pub capped : All (λ (item : ℕ × ℕ). item.1 ≤ batch.settings.penalty) prices
  pub paying : amount_ids pays ≡ filter (has_amount pays) (vehicle_ids batch.vehicles)
  pub paid : All (λ (item : ℕ × ℕ). 1 ≤ item.1) pays
  pub covered : (r c : ℕ) (ride : Ride) (v : Vehicle) → r < length batch.requests → c < length batch.vehicles
      → IfSome (cell_at table r c) (λ (offer : Offer).
      amount_of prices (slice_index_or batch.requests r ride).id ≤ offer.cost + amount_of pays (slice_index_or batch.vehicles c v).id)
  pub balanced : sum_by (λ (item : ℕ × ℕ). item.1) prices ≡ cells_cost batch table seats + sum_by (λ (item : ℕ × ℕ). item.1) pays

-- one outcome for each priced request, yet to be decided
abbrev pub undecided : List (ℕ × ℕ) → List (ℕ × Outcome)
undecided prices = map (λ (item : ℕ × ℕ). (item.0, Gone)) prices
