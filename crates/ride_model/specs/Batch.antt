-- How a batch is opened, committed and abandoned.
use Rattle.std.specs.Prelude.{ℕ, ◌+◌, ◌==◌, ◌&&◌, not, if◌then◌else◌, Bool, true, false, nat_lt, List, [], ◌∷◌, ◌++◌, map, filter, find, take, fold, Option, Some, None, is_some, unwrap_or}
use Rattle.std.specs.Option.{option_map_or}
use Rattle.ride_model.specs.declared.command.Actor.TheVariants.{Desk}
use Rattle.ride_model.specs.declared.entry.Outcome.{Outcome}
use Rattle.ride_model.specs.declared.entry.Outcome.TheVariants.{Confirmed, Away, Gone, Moved, Behind}
use Rattle.ride_model.specs.declared.offer.Seat.{Seat}
use Rattle.ride_model.specs.declared.reply.RequestState.{RequestState}
use Rattle.ride_model.specs.declared.reply.RequestState.TheVariants.{Waiting as WaitingState, InBatch, Confirmed as ConfirmedState, Away as AwayState, Cancelled as CancelledState}
use Rattle.ride_model.specs.declared.vehicle.Ride.{Ride}
use Rattle.ride_model.specs.declared.vehicle.Vehicle.{Vehicle}
use Rattle.ride_model.specs.Vehicle.{ride_ids}
use Rattle.ride_model.specs.Insertion.{inserted}
use Rattle.ride_model.specs.Offers.{is_idle, start_of}
use Rattle.ride_model.specs.Seating.{BatchCopy, find_vehicle}
use Rattle.ride_model.specs.State.{State, AcceptedRequest, has_ended, open_batch_of, request_state, with_request_state, placed_vehicle, with_vehicle, is_batch}
use Rattle.ride_model.specs.Step.{raised}

-- whether a request waits
abbrev pub is_waiting : RequestState → Bool
is_waiting WaitingState = true
is_waiting _ = false

-- whether a request was cancelled
abbrev pub is_cancelled : RequestState → Bool
is_cancelled CancelledState = true
is_cancelled _ = false

-- whether a request is in the batch of this number
abbrev pub is_in_batch : ℕ → RequestState → Bool
is_in_batch number (InBatch n) = n == number
is_in_batch number _ = false

-- the waiting requests, in order of acceptance
abbrev pub waiting_rides : State → List Ride
waiting_rides s =
    map (λ (request : AcceptedRequest). request.ride) (filter (λ (request : AcceptedRequest). is_waiting request.state) s.requests)

-- whether a desk may open a batch: it has not ended, has none open, and fewer were opened than asked for
abbrev pub may_open : State → ℕ → Bool
may_open s desk = not (has_ended s (Desk desk)) && not (is_some (open_batch_of s desk)) && nat_lt s.opened s.asked

-- the batch that a desk opens: the next number, the clock's time, the first waiting requests, copies of all vehicles
abbrev pub next_batch : State → ℕ → BatchCopy
next_batch s desk = let requests = take s.settings.batch (waiting_rides s) in
    record { number = s.opened + 1; desk = desk; time = s.clock; settings = s.settings; requests = requests; vehicles = s.vehicles }

-- the state with these rides' requests in one state
abbrev pub with_request_states : RequestState → List Ride → State → State
with_request_states state rides s = fold (λ after (ride : Ride). with_request_state ride.id state after) s rides

-- the state after a desk opened its next batch
abbrev pub after_opening : State → BatchCopy → State
after_opening s batch = let marked = with_request_states (InBatch batch.number) batch.requests s in
    record marked { opened = s.opened + 1; batches = s.batches ++ batch ∷ [] }

-- the seat of a request
abbrev pub seat_of : List Seat → ℕ → Option Seat
seat_of seats id = find (λ (seat : Seat). seat.request == id) seats

-- the version of a vehicle, 0 where there is none of the id
abbrev pub version_of : List Vehicle → ℕ → ℕ
version_of vehicles id = option_map_or (λ (v : Vehicle). v.version) (find_vehicle vehicles id) 0

-- when the vehicle of an id would start for the batch, by its copy
abbrev pub priced_start : BatchCopy → ℕ → ℕ
priced_start batch id = option_map_or (λ v. start_of v batch.settings.lead batch.time) (find_vehicle batch.vehicles id) 0

-- what a commit makes of a seated request: its vehicle moved, or the start is behind the clock, or it is confirmed
abbrev pub seated_outcome : BatchCopy → State → Seat → Outcome
seated_outcome batch s seat = let named = version_of batch.vehicles seat.vehicle in
    let stands = version_of s.vehicles seat.vehicle in
    let start = priced_start batch seat.vehicle in
    if not (named == stands) then Moved named stands
    else if nat_lt start s.clock then Behind start s.clock
    else Confirmed

-- what a commit makes of a request, by its state and its seat: gone where it was cancelled, away where it has no seat
abbrev pub outcome_by : BatchCopy → State → Bool → Option Seat → Outcome
outcome_by batch s true _ = Gone
outcome_by batch s false None = Away
outcome_by batch s false (Some seat) = seated_outcome batch s seat

-- whether the request of an id was cancelled
abbrev pub was_cancelled : State → ℕ → Bool
was_cancelled s id = option_map_or is_cancelled (request_state s id) false

-- what a commit makes of a request of the batch
abbrev pub outcome_of : BatchCopy → List Seat → State → ℕ → Outcome
outcome_of batch seats s id = outcome_by batch s (was_cancelled s id) (seat_of seats id)

-- each request of the batch with its outcome, in the batch's order
abbrev pub outcomes_of : BatchCopy → List Seat → State → List (ℕ × Outcome)
outcomes_of batch seats s = map (λ id. (id, outcome_of batch seats s id)) (ride_ids batch.requests)

-- the vehicle with a confirmed ride at its places, ready from the start on where it was idle
abbrev pub with_confirmed : State → BatchCopy → Ride → Seat → Vehicle → Vehicle
with_confirmed s batch ride seat v = let started = record v { ready = if is_idle v then priced_start batch seat.vehicle else v.ready } in
    raised (unwrap_or (inserted s.roads started ride seat.i seat.j) started)

-- the state after a ride was confirmed
abbrev pub confirm : BatchCopy → Ride → Seat → Option (ℕ × Vehicle) → State → State
confirm batch ride seat None s = s
confirm batch ride seat (Some placed) s =
    with_request_state ride.id (ConfirmedState seat.vehicle) (with_vehicle s placed.0 (with_confirmed s batch ride seat placed.1))

-- the state after an outcome: away closes the request, moved and behind let it wait again at its old place
abbrev pub after_outcome : BatchCopy → Ride → Option Seat → Outcome → State → State
after_outcome batch ride _ Gone s = s
after_outcome batch ride _ Away s = with_request_state ride.id (AwayState batch.number) s
after_outcome batch ride None Confirmed s = s
after_outcome batch ride (Some seat) Confirmed s = confirm batch ride seat (placed_vehicle s seat.vehicle) s
after_outcome batch ride _ _ s = with_request_state ride.id WaitingState s

-- the state after the outcomes of these requests, which are those at the commit's moment
abbrev pub after_outcomes : BatchCopy → List Seat → State → List Ride → State → State
after_outcomes batch seats moment [] s = s
after_outcomes batch seats moment (ride ∷ rides) s =
    after_outcomes batch seats moment rides (after_outcome batch ride (seat_of seats ride.id) (outcome_of batch seats moment ride.id) s)

-- the state with the batch no longer open
abbrev pub without_batch : BatchCopy → State → State
without_batch batch s = record s { batches = filter (λ other. not (is_batch batch.desk batch.number other)) s.batches }

-- the state after a commit of the batch by a seating
abbrev pub after_commit : BatchCopy → List Seat → State → State
after_commit batch seats s = without_batch batch (after_outcomes batch seats s batch.requests s)

-- the requests of the batch that are still in it
abbrev pub standing_rides : BatchCopy → State → List Ride
standing_rides batch s = filter (λ (ride : Ride). option_map_or (is_in_batch batch.number) (request_state s ride.id) false) batch.requests

-- the state after the batch was given up: those of its requests that are still in it wait again
abbrev pub after_abandon : BatchCopy → State → State
after_abandon batch s = without_batch batch (with_request_states WaitingState (standing_rides batch s) s)
