-- The state of dispatch.
use Rattle.std.specs.Prelude.{ℕ, ◌==◌, ◌&&◌, if◌then◌else◌, Bool, false, List, [], ◌∷◌, ◌++◌, map, find, slice_set, Option, option_map}
use Rattle.std.specs.List.{list_any, enumerate_from}
use Rattle.ride_model.specs.declared.command.Actor.{Actor}
use Rattle.ride_model.specs.declared.command.Actor.TheVariants.{Feed, Desk}
use Rattle.ride_model.specs.declared.entry.Ending.{Ending}
use Rattle.ride_model.specs.declared.reply.RequestState.{RequestState}
use Rattle.ride_model.specs.declared.settings.Settings.{Settings}
use Rattle.ride_model.specs.declared.vehicle.Ride.{Ride}
use Rattle.ride_model.specs.declared.vehicle.Vehicle.{Vehicle}
use Rattle.ride_model.specs.Road.{RoadMap}
use Rattle.ride_model.specs.Seating.{BatchCopy}

-- an accepted request: the ride that it asks for, and what has become of it
pub record AcceptedRequest : Type 0 where
  pub ride : Ride
  pub state : RequestState

-- the state: map and settings, which never change; the clock; the vehicles in fleet order; the accepted requests in order
-- of acceptance; how many batches were asked for and opened; the open batches; who has ended, and how
pub record State : Type 0 where
  pub roads : RoadMap
  pub settings : Settings
  pub clock : ℕ
  pub vehicles : List Vehicle
  pub requests : List AcceptedRequest
  pub asked : ℕ
  pub opened : ℕ
  pub batches : List BatchCopy
  pub ended : List (Actor × Ending)

-- the state of a fleet before anything happened
abbrev pub start_state : RoadMap → Settings → List Vehicle → State
start_state roads settings vehicles =
    record { roads = roads; settings = settings; clock = 0; vehicles = vehicles; requests = []; asked = 0; opened = 0; batches = []; ended = [] }

-- whether two actors are one
abbrev pub is_actor : Actor → Actor → Bool
is_actor (Feed a) (Feed b) = a == b
is_actor (Desk a) (Desk b) = a == b
is_actor _ _ = false

-- whether an actor has ended
abbrev pub has_ended : State → Actor → Bool
has_ended s actor = list_any (λ (end : Actor × Ending). is_actor end.0 actor) s.ended

-- the vehicle of an id, with its place in the fleet
abbrev pub placed_vehicle : State → ℕ → Option (ℕ × Vehicle)
placed_vehicle s id = find (λ (placed : ℕ × Vehicle). placed.1.id == id) (enumerate_from 0 s.vehicles)

-- the state with another record of the vehicle at a place
abbrev pub with_vehicle : State → ℕ → Vehicle → State
with_vehicle s place v = record s { vehicles = slice_set s.vehicles place v }

-- the accepted request of an id
abbrev pub accepted_request : State → ℕ → Option AcceptedRequest
accepted_request s id = find (λ (request : AcceptedRequest). request.ride.id == id) s.requests

-- what has become of the request of an id
abbrev pub request_state : State → ℕ → Option RequestState
request_state s id = option_map (λ (request : AcceptedRequest). request.state) (accepted_request s id)

-- the state with another state of the request of an id
abbrev pub with_request_state : ℕ → RequestState → State → State
with_request_state id state s =
    let marked = λ (request : AcceptedRequest). if request.ride.id == id then record request { state = state } else request in
    record s { requests = map marked s.requests }

-- the open batch of a desk
abbrev pub open_batch_of : State → ℕ → Option BatchCopy
open_batch_of s desk = find (λ (batch : BatchCopy). batch.desk == desk) s.batches

-- whether it is the batch of this number, opened by this desk
abbrev pub is_batch : ℕ → ℕ → BatchCopy → Bool
is_batch desk number batch = batch.desk == desk && batch.number == number

-- the open batch of this number, where this desk opened it
abbrev pub open_batch_numbered : State → ℕ → ℕ → Option BatchCopy
open_batch_numbered s desk number = find (is_batch desk number) s.batches
