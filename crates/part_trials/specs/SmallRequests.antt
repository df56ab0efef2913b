-- Small requests for tests.
use Rattle.std.specs.Prelude.{ℕ, None}
use Rattle.ride_model.specs.declared.reply.RequestState.TheVariants.{Waiting}
use Rattle.ride_model.specs.declared.vehicle.Ride.{Ride}
use Rattle.ride_model.specs.State.{AcceptedRequest}

-- a ride of one seat from node 1 to node 2
abbrev pub row_ride : ℕ → Ride
row_ride id = record { id = id; from = 1; to = 2; seats = 1; chairs = 0; latest = 600; longest = 300; picked = None }

-- its request, which waits
abbrev pub row_request : ℕ → AcceptedRequest
row_request id = record { ride = row_ride id; state = Waiting }
