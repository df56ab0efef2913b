-- Sheets: which idle vehicles are sent ahead after a batch, and towards which requests.
use Rattle.std.specs.Prelude.{◌≡◌, ℕ, ◌==◌, ◌&&◌, not, if◌then◌else◌, nat_le, Bool, List, length, map, filter, slice_index, Option, Some, None, option_and_then, option_map}
use Rattle.std.specs.List.{list_any, flat_map, filter_map, range_with_len}
use Rattle.ride_model.specs.declared.offer.Seat.{Seat}
use Rattle.ride_model.specs.declared.vehicle.Ride.{Ride}
use Rattle.ride_model.specs.declared.vehicle.Vehicle.{Vehicle}
use Rattle.ride_model.specs.Offers.{is_idle}
use Rattle.ride_model.specs.Road.{RoadMap, travel}
use Rattle.ride_model.specs.Seating.{BatchCopy, has_seat, vehicle_ids}
use Rattle.ride_model.specs.Vehicle.{ride_ids}
use Rattle.dual_check.specs.Cells.{GridCells, cell_at}
use Rattle.dual_check.specs.Grid.{CertifiesPairing, IsLeastPairing, column_of, pairing_cost}
use Rattle.hungarian.specs.Seats.{pays_by, prices_by}
use Rattle.idle_moves.specs.declared.moves.Move.{Move}
use Rattle.idle_moves.specs.declared.moves.MoveSheet.{MoveSheet}

-- whether a vehicle is idle, on duty and in no seat
abbrev pub stands_by : List Seat → Vehicle → Bool
stands_by seats v = is_idle v && v.duty && not (list_any (λ (seat : Seat). seat.vehicle == v.id) seats)

-- a travel time where it is at most the reach
abbrev pub within : ℕ → Option ℕ → Option ℕ
within reach time = option_and_then (λ seconds. if nat_le seconds reach then Some seconds else None) time

-- the grid of the travel times within reach: a row for each request, and in it from where each vehicle is to the pickup
abbrev pub times_grid : RoadMap → ℕ → List Ride → List Vehicle → GridCells
times_grid roads reach rides vehicles = record {
  rows = length rides;
  columns = length vehicles;
  cells = flat_map (λ (ride : Ride). map (λ (v : Vehicle). within reach (travel roads v.at ride.from)) vehicles) rides;
}

-- the order to the vehicle of a column, if any, to drive to the request of a row
abbrev pub order_at : GridCells → List Ride → List Vehicle → ℕ → Option ℕ → Option Move
order_at grid rides vehicles row given = option_and_then (λ column. option_map (λ seconds. record {
  request = slice_index (ride_ids rides) row;
  vehicle = slice_index (vehicle_ids vehicles) column;
  version = slice_index (map (λ (v : Vehicle). v.version) vehicles) column;
  node = slice_index (map (λ (ride : Ride). ride.from) rides) row;
  seconds = seconds;
}) (cell_at grid row column)) given

-- the orders of the first rows of a pairing
abbrev pub orders_by : GridCells → List Ride → List Vehicle → List (Option ℕ) → ℕ → List Move
orders_by grid rides vehicles pairing count =
    filter_map (λ row. order_at grid rides vehicles row (column_of pairing row)) (range_with_len 0 count)

-- what a sheet says of a grid's pairing: its cost, its orders, the price of each request, and what vehicles pay, those above 0
pub record Shows (grid : GridCells) (reach : ℕ) (rides : List Ride) (vehicles : List Vehicle) (pairing : List (Option ℕ)) (prices pays : List ℕ) (sheet : MoveSheet) : Type 0 where
  pub cost_is : sheet.cost ≡ pairing_cost grid reach pairing
  pub moves_are : sheet.moves ≡ orders_by grid rides vehicles pairing (length rides)
  pub prices_are : sheet.prices ≡ prices_by (ride_ids rides) prices (length rides)
  pub pays_are : sheet.pays ≡ pays_by (vehicle_ids vehicles) pays (length vehicles)

-- a sheet shows a least pairing of requests and vehicles over the travel times within reach, with the reach as the penalty
-- and prices that certify it
pub record IsSheetOver (roads : RoadMap) (reach : ℕ) (rides : List Ride) (vehicles : List Vehicle) (sheet : MoveSheet) : Type 0 where
  pub pairing : List (Option ℕ)
  pub prices : List ℕ
  pub pays : List ℕ
  pub least : IsLeastPairing (times_grid roads reach rides vehicles) reach pairing
  pub certified : CertifiesPairing (times_grid roads reach rides vehicles) reach pairing prices pays
  pub shown : Shows (times_grid roads reach rides vehicles) reach rides vehicles pairing prices pays sheet

-- the sheet of a batch and its seating is over the requests that the seating leaves out, in the batch's order, and the copies
-- that are idle, on duty and in no seat, in fleet order
pub record IsSheet (roads : RoadMap) (batch : BatchCopy) (seats : List Seat) (reach : ℕ) (sheet : MoveSheet) : Type 0 where
  pub batch_is : sheet.batch ≡ batch.number
  pub over : IsSheetOver roads reach (filter (λ (ride : Ride). not (has_seat seats ride.id)) batch.requests) (filter (stands_by seats) batch.vehicles) sheet
