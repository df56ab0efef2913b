-- Price tables: for each request and vehicle of a batch a least offer.
use Rattle.std.specs.Prelude.{◌≡◌, ℕ, ◌+◌, ◌*◌, ◌<◌, ◌≤◌, List, length, slice_index_or, All, Option, Some, None, MatchOption, IfSome, ◌^◌}
use Rattle.ride_model.specs.declared.offer.Offer.{Offer}
use Rattle.ride_model.specs.declared.vehicle.Ride.{Ride}
use Rattle.ride_model.specs.declared.vehicle.Vehicle.{Vehicle}
use Rattle.ride_model.specs.Road.{RoadMap}
use Rattle.ride_model.specs.Offers.{offer_of, price}
use Rattle.ride_model.specs.Seating.{BatchCopy}
use Rattle.ride_model.specs.inner.Seating.{IsBatchOver}
use Rattle.ride_model.specs.Vehicle.{IsLawful}
use Rattle.ride_model.specs.declared.limits.TheConstants.{LATEST_TIME}

-- a batch can be priced over a map
pub record IsPriceable (roads : RoadMap) (batch : BatchCopy) : Type 0 where
  pub in_time : batch.time ≤ LATEST_TIME
  pub over_map : IsBatchOver roads batch
  pub lawful : All (IsLawful roads) batch.vehicles

-- a table of rows of requests and columns of vehicles, its cells row by row
pub record Table : Type 0 where
  pub rows : ℕ
  pub columns : ℕ
  pub cells : List (Option Offer)

-- the cell of a request and a vehicle, by their places
abbrev pub cell_at : Table → ℕ → ℕ → Option Offer
cell_at table request vehicle = slice_index_or table.cells (request * table.columns + vehicle) None

-- an offer is a least one of its pair, with its start and its joins
pub record IsLeastOffer (roads : RoadMap) (batch : BatchCopy) (ride : Ride) (v : Vehicle) (offer : Offer) : Type 0 where
  pub offered : offer_of roads batch.settings v ride batch.time offer.i offer.j ≡ Some offer
  pub least : price roads batch.settings v ride batch.time ≡ Some offer.cost

-- a table has a row for each request and a column for each vehicle of the batch
pub record FitsBatch (batch : BatchCopy) (table : Table) : Type 0 where
  pub rows_are : table.rows ≡ length batch.requests
  pub columns_are : table.columns ≡ length batch.vehicles

-- over a map, the table is the batch's: each cell is a least offer of its pair, and is absent exactly where there is none
pub record IsTableOf (roads : RoadMap) (batch : BatchCopy) (table : Table) : Type 0 where
  pub fits : FitsBatch batch table
  pub cells_are : (r c : ℕ) (ride : Ride) (v : Vehicle) → r < length batch.requests → c < length batch.vehicles
      → MatchOption (cell_at table r c)
      (price roads batch.settings (slice_index_or batch.vehicles c v) (slice_index_or batch.requests r ride) batch.time ≡ None)
      (IsLeastOffer roads batch (slice_index_or batch.requests r ride) (slice_index_or batch.vehicles c v))

-- every cost is below 2^42
abbrev pub HasSmallCosts : Table → Type 0
HasSmallCosts table = (r c : ℕ) → r < table.rows → c < table.columns → IfSome (cell_at table r c) (λ (offer : Offer). offer.cost < 2 ^ 42)
