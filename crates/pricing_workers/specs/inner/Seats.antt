-- Seats by their places in a batch.
use Rattle.std.specs.Prelude.{◌≡◌, ◌<◌, length, slice_index_or, Option}
use Rattle.ride_model.specs.declared.offer.Offer.{Offer}
use Rattle.ride_model.specs.declared.vehicle.Ride.{Ride}
use Rattle.ride_model.specs.declared.vehicle.Vehicle.{Vehicle}
use Rattle.ride_model.specs.Offers.{offer_of}
use Rattle.ride_model.specs.Road.{RoadMap}
use Rattle.ride_model.specs.Seating.{BatchCopy}
use Rattle.pricing_workers.specs.declared.seats.SeatPlaces.{SeatPlaces}

-- a seat is of a request and a vehicle of a batch
pub record IsWithin (batch : BatchCopy) (seat : SeatPlaces) : Type 0 where
  pub request_in : seat.request < length batch.requests
  pub vehicle_in : seat.vehicle < length batch.vehicles

-- an offer is that of a seat's vehicle to its request at the seat's places, or there is none
abbrev pub IsOfferOf : RoadMap → BatchCopy → SeatPlaces → Option Offer → Type 0
IsOfferOf roads batch seat offer = (ride : Ride) (v : Vehicle)
    → offer ≡ offer_of roads batch.settings (slice_index_or batch.vehicles seat.vehicle v) (slice_index_or batch.requests seat.request ride)
    batch.time seat.i seat.j
