-- How a `RequestBook` keeps the accepted requests.
use Rattle.std.specs.Prelude.{◌≡◌, ℕ, ◌+◌, if◌then◌else◌, List, [], ◌∷◌, map, All}
use Rattle.ride_model.specs.State.{AcceptedRequest}
use Rattle.ride_model.specs.Batch.{is_waiting}
use Rattle.ride_model.specs.declared.limits.TheConstants.{MOST_REQUESTS}
use Rattle.board_core.specs.declared.request_book.Accepted.{Accepted}
use Rattle.board_core.specs.inner.request_book.Book.{IsBook}
use Rattle.wait_list.specs.inner.Waiting.{Waiting}

-- the request that an entry of the map keeps
abbrev pub request_in : ℕ × Accepted → AcceptedRequest
request_in entry = record { ride = entry.1.ride; state = entry.1.state }

-- the requests that the entries keep
abbrev pub requests_in : List (ℕ × Accepted) → List AcceptedRequest
requests_in entries = map request_in entries

-- the places of the requests that wait, where the first request has this place
abbrev pub waiting_places : ℕ → List AcceptedRequest → List ℕ
waiting_places place [] = []
waiting_places place (request ∷ requests) =
    if is_waiting request.state then place ∷ waiting_places (place + 1) requests else waiting_places (place + 1) requests

-- each key is the id of its ride, and the waiting list has the places of those that wait
pub record IsKept (entries : List (ℕ × Accepted)) (waiting : Waiting) : Type 0 where
  pub book : IsBook (requests_in entries)
  pub keys_are : All (λ (entry : ℕ × Accepted). entry.0 ≡ entry.1.ride.id) entries
  pub room : waiting.capacity ≡ MOST_REQUESTS
  pub places_are : waiting.places ≡ waiting_places 0 (requests_in entries)
