-- What commands change.
use Rattle.std.specs.Prelude.{◌≡◌, ℕ, ◌≤◌, ◌<◌, ◌^◌, ◌==◌, List, All, Option, find, take}
use Rattle.std.specs.List.{enumerate_from}
use Rattle.ride_model.specs.declared.reply.Reply.{Reply}
use Rattle.ride_model.specs.declared.vehicle.Vehicle.{Vehicle}
use Rattle.ride_model.specs.Fleet.{IsFleet}
use Rattle.ride_model.specs.Road.{IsRoadMap}
use Rattle.ride_model.specs.Settings.{IsSettings}
use Rattle.ride_model.specs.Seating.{BatchCopy, vehicle_ids}
use Rattle.ride_model.specs.State.{State}
use Rattle.ride_model.specs.Step.{Answered}
use Rattle.ride_model.specs.Vehicle.{IsLawful}
use Rattle.ride_model.specs.declared.limits.TheConstants.{LATEST_TIME, MOST_BATCHES}
use Rattle.model_laws.specs.inner.history_laws.Consistent.{HasPromised, IsWithVehicle}
use Rattle.board_core.specs.inner.request_book.Book.{waiting_of}
use Rattle.board_core.specs.declared.service.Service.{Service}
use Rattle.board_core.specs.inner.Given.{Given}

-- the state whose clock, vehicles, requests and asked batches are the service's, and the others those of the rest
abbrev pub state_at : Given → Service → State → State
state_at setup service rest = record rest {
  roads = setup.roads;
  settings = setup.settings;
  clock = service.clock;
  vehicles = service.vehicles.items;
  requests = service.requests;
  asked = service.asked;
}

-- an answer that leaves the service so
abbrev pub answered_at : Given → Service → State → Reply → Answered
answered_at setup service rest reply = record { state = state_at setup service rest; reply = reply }

-- the vehicle of an id, with its place
abbrev pub placed_in : List Vehicle → ℕ → Option (ℕ × Vehicle)
placed_in vehicles id = find (λ (placed : ℕ × Vehicle). placed.1.id == id) (enumerate_from 0 vehicles)

-- each version has room to rise
abbrev pub HasRoomAbove : Vehicle → Type 0
HasRoomAbove v = v.version < 2 ^ 63

-- a service that is in order
pub record IsInOrder (setup : Given) (service : Service) : Type 0 where
  pub map_fits : IsRoadMap setup.roads
  pub settings_fit : IsSettings setup.settings
  pub clock_fits : service.clock ≤ LATEST_TIME
  pub few_asked : service.asked ≤ MOST_BATCHES
  pub fleet_fits : IsFleet service.vehicles.items
  pub ids_are : setup.ids ≡ vehicle_ids service.vehicles.items
  pub lawful : All (IsLawful setup.roads) service.vehicles.items
  pub versions_fit : All HasRoomAbove service.vehicles.items
  pub promised : (rest : State) → All (HasPromised (state_at setup service rest)) service.vehicles.items
  pub with_vehicles : (rest : State) → All (IsWithVehicle (state_at setup service rest)) service.requests

-- the batch of a number that a desk opens
abbrev pub batch_at : Given → Service → ℕ → ℕ → BatchCopy
batch_at setup service number desk = record {
  number = number;
  desk = desk;
  time = service.clock;
  settings = setup.settings;
  requests = take setup.settings.batch (waiting_of service.requests);
  vehicles = service.vehicles.items;
}
