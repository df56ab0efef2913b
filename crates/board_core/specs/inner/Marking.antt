-- Requests whose states are set one after another.
use Rattle.std.specs.Prelude.{ℕ, List, fold, filter, Option, option_map}
use Rattle.ride_model.specs.declared.reply.RequestState.{RequestState}
use Rattle.ride_model.specs.declared.vehicle.Ride.{Ride}
use Rattle.ride_model.specs.State.{AcceptedRequest}
use Rattle.model_laws.specs.inner.Requests.{is_in}
use Rattle.board_core.specs.inner.request_book.Book.{request_of, with_state}

-- the requests with those of these ids in one state
abbrev pub marked_in : RequestState → List ℕ → List AcceptedRequest → List AcceptedRequest
marked_in state ids requests = fold (λ after id. with_state id state after) requests ids

-- what has become of the request of an id
abbrev pub state_in : List AcceptedRequest → ℕ → Option RequestState
state_in requests id = option_map (λ (request : AcceptedRequest). request.state) (request_of requests id)

-- the rides whose requests are still in the batch of a number
abbrev pub still_in : List AcceptedRequest → ℕ → List Ride → List Ride
still_in requests number rides = filter (λ (ride : Ride). is_in number (state_in requests ride.id)) rides
