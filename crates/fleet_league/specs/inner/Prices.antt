-- What only lemmas and lower contracts use beside Prices.antt.
use Rattle.std.specs.Prelude.{◌≡◌, None}
use Rattle.ride_model.specs.declared.vehicle.Ride.{Ride}
use Rattle.ride_model.specs.State.{State, accepted_request}
use Rattle.ride_model.specs.Vehicle.{IsRide}

-- a ride that a state has not accepted, and that fits its map and waits
pub record IsNewRide (s : State) (ride : Ride) : Type 0 where
  pub fits : IsRide s.roads ride
  pub waits : ride.picked ≡ None
  pub not_accepted : accepted_request s ride.id ≡ None
