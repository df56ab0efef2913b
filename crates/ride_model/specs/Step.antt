-- What each command does: its reply, and the state that it leaves. Cases are tried from top to bottom.
use Rattle.std.specs.Prelude.{ℕ, ◌+◌, ◌-◌, ◌==◌, ◌&&◌, ◌||◌, not, if◌then◌else◌, Bool, true, false, max, nat_lt, nat_le, List, [], ◌∷◌, ◌++◌, length, map, Option, Some, None, is_some}
use Rattle.ride_model.specs.declared.command.Command.{Command}
use Rattle.ride_model.specs.declared.command.Command.TheVariants.{Request, Cancel, At, Done, On, Off, Clock, Ask, Bad}
use Rattle.ride_model.specs.declared.reply.Reply.{Reply}
use Rattle.ride_model.specs.declared.reply.Reply.TheVariants.{Waiting, Cancelled, Freed, OnMap, Late, Picked, Dropped, Duty, Now, Asked, Noted, Refused}
use Rattle.ride_model.specs.declared.reply.RequestState.{RequestState}
use Rattle.ride_model.specs.declared.reply.RequestState.TheVariants.{Waiting as WaitingState, InBatch, Confirmed, Aboard, Done as DoneState, Away, Cancelled as CancelledState}
use Rattle.ride_model.specs.declared.vehicle.Kind.{Kind}
use Rattle.ride_model.specs.declared.vehicle.Kind.TheVariants.{Pickup, Dropoff}
use Rattle.ride_model.specs.declared.vehicle.Ride.{Ride}
use Rattle.ride_model.specs.declared.vehicle.Stop.{Stop}
use Rattle.ride_model.specs.declared.vehicle.Vehicle.{Vehicle}
use Rattle.ride_model.specs.Road.{RoadMap, travel}
use Rattle.ride_model.specs.Keeps.{broken_of}
use Rattle.ride_model.specs.Insertion.{with_plan, rides_without, rerouted, without_ride}
use Rattle.ride_model.specs.State.{State, AcceptedRequest, accepted_request, with_request_state, placed_vehicle, with_vehicle}
use Rattle.ride_model.specs.declared.limits.TheConstants.{LATEST_READY, LATEST_TIME, LONGEST_RIDE, MOST_BATCHES, MOST_CHAIRS, MOST_REQUESTS, MOST_SEATS}
use Rattle.ride_model.specs.declared.refusals.TheConstants.{BATCHES_FULL, DAY_OVER, END_OFF_MAP, KNOWN_ID, NOT_AT_STOP, NO_STOP, NO_WAY, ODD_LOAD, ODD_TIME, REPORT_OFF_MAP, REPORT_TOO_EARLY, REQUESTS_FULL, REQUEST_CLOSED, RIDER_ABOARD, SAME_ENDS, UNKNOWN_REQUEST, UNKNOWN_VEHICLE}

-- a command's outcome: the state after it, and the reply
pub record Answered : Type 0 where
  pub state : State
  pub reply : Reply

-- a refusal changes nothing
abbrev pub refused : State → ℕ → Answered
refused s code = record { state = s; reply = Refused code }

-- whether a number is that of a node
abbrev pub is_node : RoadMap → ℕ → Bool
is_node roads x = nat_le 1 x && nat_le x roads.nodes

-- the vehicle after a change of what it has promised, or of where it is
abbrev pub raised : Vehicle → Vehicle
raised v = record v { version = v.version + 1 }

-- the state after a request was accepted
abbrev pub with_accepted : State → Ride → State
with_accepted s ride = record s { requests = s.requests ++ (record { ride = ride; state = WaitingState }) ∷ [] }

-- request ID FROM TO SEATS LATEST LONGEST CHAIRS
unfoldable pub request_step : State → ℕ → ℕ → ℕ → ℕ → ℕ → ℕ → ℕ → Answered
request_step s id from to seats latest longest chairs =
    let ride : Ride = record { id = id; from = from; to = to; seats = seats; chairs = chairs; latest = latest; longest = longest; picked = None } in
    if is_some (accepted_request s id) then refused s KNOWN_ID
    else if not (is_node s.roads from && is_node s.roads to) then refused s END_OFF_MAP
    else if from == to then refused s SAME_ENDS
    else if nat_lt MOST_SEATS seats || nat_lt MOST_CHAIRS chairs || seats + chairs == 0 then refused s ODD_LOAD
    else if nat_lt LATEST_TIME latest || longest == 0 || nat_lt LONGEST_RIDE longest then refused s ODD_TIME
    else if nat_le MOST_REQUESTS (length s.requests) then refused s REQUESTS_FULL
    else record { state = with_accepted s ride; reply = Waiting }

-- a request that no vehicle has promised is cancelled
abbrev pub cancelled : State → ℕ → Answered
cancelled s id = record { state = with_request_state id CancelledState s; reply = Cancelled }

-- a request that a vehicle has promised is cancelled: the ride and its two stops leave the plan
abbrev pub freed : State → ℕ → ℕ → Option (ℕ × Vehicle) → Answered
freed s id vehicle None = refused s UNKNOWN_VEHICLE
freed s id vehicle (Some placed) = let left = raised (without_ride s.roads placed.1 id) in
    record { state = with_request_state id CancelledState (with_vehicle s placed.0 left); reply = Freed vehicle }

-- a cancellation, by what has become of the request
abbrev pub cancel_by_state : State → ℕ → RequestState → Answered
cancel_by_state s id WaitingState = cancelled s id
cancel_by_state s id (InBatch _) = cancelled s id
cancel_by_state s id (Confirmed vehicle) = freed s id vehicle (placed_vehicle s vehicle)
cancel_by_state s id (Aboard _) = refused s RIDER_ABOARD
cancel_by_state s id _ = refused s REQUEST_CLOSED

-- cancel ID, by the request of the id
abbrev pub cancel_found : State → ℕ → Option AcceptedRequest → Answered
cancel_found s id None = refused s UNKNOWN_REQUEST
cancel_found s id (Some request) = cancel_by_state s id request.state

-- the vehicle after a report: it is at the node at the time, and its first leg begins there
abbrev pub reported : State → ℕ → ℕ → Vehicle → Vehicle
reported s node time v = raised (rerouted s.roads (record v { at = node; ready = time }))

-- the reply to a report by which the first stop is reached at new in place of old
abbrev pub report_reply : State → Vehicle → ℕ → ℕ → Reply
report_reply s after new old = if nat_le new old then OnMap else Late (new - old) (broken_of after s.settings.dwell)

-- a report of a driving vehicle, by the travel time from the reported node to the first stop
abbrev pub report_driving : State → ℕ → Vehicle → Vehicle → ℕ → Option ℕ → Answered
report_driving s place v after old None = refused s NO_WAY
report_driving s place v after old (Some leg) =
    record { state = with_vehicle s place after; reply = report_reply s after (after.ready + leg) old }

-- a report by the vehicle's stops
abbrev pub report : State → ℕ → Vehicle → Vehicle → List Stop → Answered
report s place v after [] = record { state = with_vehicle s place after; reply = OnMap }
report s place v after (first ∷ _) = report_driving s place v after (v.ready + first.leg) (travel s.roads after.at first.node)

-- at VEHICLE NODE TIME, by the vehicle of the id with its place
abbrev pub at_found : State → ℕ → ℕ → Option (ℕ × Vehicle) → Answered
at_found s node time None = refused s UNKNOWN_VEHICLE
at_found s node time (Some placed) = if not (is_node s.roads node) then refused s REPORT_OFF_MAP
    else if nat_lt LATEST_TIME time then refused s ODD_TIME
    else if nat_lt time placed.1.ready then refused s REPORT_TOO_EARLY
    else report s placed.0 placed.1 (reported s node time placed.1) placed.1.stops.items

-- the rides after a pickup
abbrev pub rides_with_picked : ℕ → ℕ → List Ride → List Ride
rides_with_picked id time rides = map (λ (ride : Ride). if ride.id == id then record ride { picked = Some time } else ride) rides

-- the vehicle after its first stop was served, its version aside: the stop goes, and so does a ride that was dropped
abbrev pub served : ℕ → Vehicle → Stop → List Stop → Kind → Vehicle
served dwell v stop rest Pickup = with_plan (record v { ready = v.ready + dwell }) (rides_with_picked stop.ride v.ready v.rides.items) rest
served dwell v stop rest Dropoff = with_plan (record v { ready = v.ready + dwell }) (rides_without stop.ride v.rides.items) rest

-- the reply to a served stop, and what becomes of its request
abbrev pub served_reply : Stop → Kind → Reply
served_reply stop Pickup = Picked stop.ride
served_reply stop Dropoff = Dropped stop.ride

abbrev pub served_state : Vehicle → Kind → RequestState
served_state v Pickup = Aboard v.id
served_state v Dropoff = DoneState

abbrev pub done_at_stop : State → ℕ → Vehicle → List Stop → Answered
done_at_stop s place v [] = refused s NO_STOP
done_at_stop s place v (stop ∷ rest) = let left = with_vehicle s place (raised (served s.settings.dwell v stop rest stop.kind)) in
    if not (v.at == stop.node) then refused s NOT_AT_STOP
    else if nat_lt LATEST_READY (v.ready + s.settings.dwell) then refused s DAY_OVER
    else record { state = with_request_state stop.ride (served_state v stop.kind) left; reply = served_reply stop stop.kind }

-- done VEHICLE, likewise
abbrev pub done_found : State → Option (ℕ × Vehicle) → Answered
done_found s None = refused s UNKNOWN_VEHICLE
done_found s (Some placed) = done_at_stop s placed.0 placed.1 placed.1.stops.items

-- on VEHICLE, off VEHICLE, likewise
abbrev pub duty_found : State → Bool → Option (ℕ × Vehicle) → Answered
duty_found s duty None = refused s UNKNOWN_VEHICLE
duty_found s duty (Some placed) = record { state = with_vehicle s placed.0 (raised (record placed.1 { duty = duty })); reply = Duty }

-- clock TIME
unfoldable pub clock_step : State → ℕ → Answered
clock_step s time = if nat_lt LATEST_TIME time then refused s ODD_TIME
    else record { state = record s { clock = max time s.clock }; reply = Now (max time s.clock) }

-- batch
unfoldable pub ask_step : State → Answered
ask_step s = if nat_le MOST_BATCHES s.asked then refused s BATCHES_FULL
    else record { state = record s { asked = s.asked + 1 }; reply = Asked (s.asked + 1) }

-- a command
abbrev pub step : State → Command → Answered
step s (Request id from to seats latest longest chairs) = request_step s id from to seats latest longest chairs
step s (Cancel id) = cancel_found s id (accepted_request s id)
step s (At vehicle node time) = at_found s node time (placed_vehicle s vehicle)
step s (Done vehicle) = done_found s (placed_vehicle s vehicle)
step s (On vehicle) = duty_found s true (placed_vehicle s vehicle)
step s (Off vehicle) = duty_found s false (placed_vehicle s vehicle)
step s (Clock time) = clock_step s time
step s Ask = ask_step s
step s (Bad _) = record { state = s; reply = Noted }
