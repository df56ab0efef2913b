-- What a contract sees of a `RequestBook`: the accepted requests, in order of acceptance.
use Rattle.std.specs.Prelude.{ℕ, ◌≤◌, ◌==◌, if◌then◌else◌, List, length, map, filter, find, Option, nat_eq}
use Rattle.std.specs.List.{IsDistinct}
use Rattle.ride_model.specs.declared.reply.RequestState.{RequestState}
use Rattle.ride_model.specs.declared.vehicle.Ride.{Ride}
use Rattle.ride_model.specs.State.{AcceptedRequest}
use Rattle.ride_model.specs.Batch.{is_waiting}
use Rattle.ride_model.specs.declared.limits.TheConstants.{MOST_REQUESTS}

-- at most 100,000 requests, of distinct ids
pub record IsBook (requests : List AcceptedRequest) : Type 0 where
  pub few : length requests ≤ MOST_REQUESTS
  pub ids_differ : IsDistinct nat_eq (map (λ (request : AcceptedRequest). request.ride.id) requests)

-- the request of an id
abbrev pub request_of : List AcceptedRequest → ℕ → Option AcceptedRequest
request_of requests id = find (λ (request : AcceptedRequest). request.ride.id == id) requests

-- the requests with another state of the one of an id
abbrev pub with_state : ℕ → RequestState → List AcceptedRequest → List AcceptedRequest
with_state id state requests =
    map (λ (request : AcceptedRequest). if request.ride.id == id then record request { state = state } else request) requests

-- the rides of those that wait, in order of acceptance
abbrev pub waiting_of : List AcceptedRequest → List Ride
waiting_of requests =
    map (λ (request : AcceptedRequest). request.ride) (filter (λ (request : AcceptedRequest). is_waiting request.state) requests)
