-- Where a history starts, and what is asked of the commands that are fed to it.
use Rattle.std.specs.Prelude.{◌≡◌, Bool, true, false}
use Rattle.ride_model.specs.declared.entry.Event.{Event}
use Rattle.ride_model.specs.declared.entry.Event.TheVariants.{Fed}
use Rattle.ride_model.specs.Fleet.{IsFleet, MayStart}
use Rattle.ride_model.specs.Road.{IsRoadMap}
use Rattle.ride_model.specs.State.{State, start_state}

-- the state of a fleet before anything happened: the map is within its limits, and a session may start with settings and fleet
pub record IsStart (s : State) : Type 0 where
  pub map_fits : IsRoadMap s.roads
  pub fleet_fits : IsFleet s.vehicles
  pub may_start : MayStart s.roads s.settings s.vehicles
  pub nothing_yet : s ≡ start_state s.roads s.settings s.vehicles

-- whether an event answers a command
abbrev pub is_fed : Event → Bool
is_fed (Fed _ _) = true
is_fed _ = false
