-- Seats with their places in the batch and their own offers.
use Rattle.std.specs.Prelude.{◌≡◌, ℕ, ◌<◌, List, length, slice_index_or, Some}
use Rattle.ride_model.specs.declared.offer.Seat.{Seat}
use Rattle.ride_model.specs.declared.vehicle.Ride.{Ride}
use Rattle.ride_model.specs.declared.vehicle.Vehicle.{Vehicle}
use Rattle.ride_model.specs.Offers.{offer_of}
use Rattle.ride_model.specs.Road.{RoadMap}
use Rattle.ride_model.specs.Seating.{BatchCopy, IsSeating, seating_cost}
use Rattle.log_audit.specs.declared.seating.Placed.{Placed}

-- a seat's places in the batch, and the offer of its vehicle to its request at its places
pub record IsPlaced (roads : RoadMap) (batch : BatchCopy) (seat : Seat) (placed : Placed) : Type 0 where
  pub request_in : placed.request < length batch.requests
  pub vehicle_in : placed.vehicle < length batch.vehicles
  pub request_is : (ride : Ride) → (slice_index_or batch.requests placed.request ride).id ≡ seat.request
  pub vehicle_is : (v : Vehicle) → (slice_index_or batch.vehicles placed.vehicle v).id ≡ seat.vehicle
  pub offered : (ride : Ride) (v : Vehicle) → offer_of roads batch.settings (slice_index_or batch.vehicles placed.vehicle v)
      (slice_index_or batch.requests placed.request ride) batch.time seat.i seat.j ≡ Some placed.offer

-- one for each of these seats, in their order
pub record ArePlaced (roads : RoadMap) (batch : BatchCopy) (seats : List Seat) (placed : List Placed) : Type 0 where
  pub count : length placed ≡ length seats
  pub each : (k : ℕ) (seat : Seat) (one : Placed) → k < length seats
      → IsPlaced roads batch (slice_index_or seats k seat) (slice_index_or placed k one)

-- the seats are a seating of the batch, and the cost is what it costs
abbrev pub IsSeatedAt : RoadMap → BatchCopy → List Seat → ℕ → Type 0
IsSeatedAt roads batch seats cost = IsSeating roads batch seats × (cost ≡ seating_cost roads batch seats)
