-- The cells of a price table, as they are filled.
use Rattle.std.specs.Prelude.{◌≡◌, ℕ, ◌+◌, ◌*◌, ◌<◌, List, length, slice_index_or, Option, None, MatchOption}
use Rattle.ride_model.specs.declared.offer.Offer.{Offer}
use Rattle.ride_model.specs.declared.vehicle.Ride.{Ride}
use Rattle.ride_model.specs.declared.vehicle.Vehicle.{Vehicle}
use Rattle.ride_model.specs.Road.{RoadMap}
use Rattle.ride_model.specs.Offers.{price}
use Rattle.ride_model.specs.Seating.{BatchCopy}
use Rattle.batch_commit.specs.inner.Table.{IsLeastOffer}

-- the cell of a request and a vehicle: a least offer of the pair, absent exactly where it has none
abbrev pub IsCellOf : RoadMap → BatchCopy → Ride → Vehicle → Option Offer → Type 0
IsCellOf roads batch ride v cell =
    MatchOption cell (price roads batch.settings v ride batch.time ≡ None) (IsLeastOffer roads batch ride v)

-- the cells of requests, row after row
pub record AreRowsOf (roads : RoadMap) (batch : BatchCopy) (rides : List Ride) (cells : List (Option Offer)) : Type 0 where
  pub count : length cells ≡ length rides * length batch.vehicles
  pub cells_are : (r c : ℕ) (ride : Ride) (v : Vehicle) → r < length rides → c < length batch.vehicles
      → IsCellOf roads batch (slice_index_or rides r ride) (slice_index_or batch.vehicles c v)
      (slice_index_or cells (r * length batch.vehicles + c) None)

-- the cells of pairs from the first on, where those of a ride stand before those of the next
pub record ArePairsOf (roads : RoadMap) (batch : BatchCopy) (rides : List Ride) (first : ℕ) (cells : List (Option Offer)) : Type 0 where
  pub cells_are : (k r c : ℕ) (ride : Ride) (v : Vehicle) → k < length cells → c < length batch.vehicles
      → r * length batch.vehicles + c ≡ first + k
      → IsCellOf roads batch (slice_index_or rides r ride) (slice_index_or batch.vehicles c v) (slice_index_or cells k None)
