-- Reports of the drivers of a drill.
use Rattle.std.specs.Prelude.{◌≡◌, ℕ, ◌+◌, ◌≤◌, ⊤, List, ◌∷◌, slice_get, Some}
use Rattle.ride_model.specs.declared.reply.Reply.{Reply}
use Rattle.ride_model.specs.declared.reply.Reply.TheVariants.{OnMap, Picked, Dropped}
use Rattle.ride_model.specs.declared.vehicle.Stop.{Stop}
use Rattle.ride_model.specs.declared.vehicle.Vehicle.{Vehicle}
use Rattle.ride_model.specs.Fleet.{IsFleet}
use Rattle.ride_model.specs.Road.{IsRoadMap}
use Rattle.ride_model.specs.Settings.{IsSettings}
use Rattle.ride_model.specs.State.{State}
use Rattle.ride_model.specs.Vehicle.{IsLawful}
use Rattle.ride_model.specs.declared.limits.TheConstants.{LATEST_TIME}

-- a report was accepted, and is not late
abbrev pub IsOnTime : Reply → Type 0
IsOnTime OnMap = ⊤
IsOnTime (Picked _) = ⊤
IsOnTime (Dropped _) = ⊤
IsOnTime _ = ⊥

-- the vehicle at a place of the fleet is lawful, the clock is within the day, and the vehicle reaches its first stop within it
pub record DrivesInTheDay (s : State) (place : ℕ) (v : Vehicle) : Type 0 where
  pub roads_fit : IsRoadMap s.roads
  pub settings_fit : IsSettings s.settings
  pub fleet_fits : IsFleet s.vehicles
  pub placed : slice_get s.vehicles place ≡ Some v
  pub lawful : IsLawful s.roads v
  pub clock_in_day : s.clock ≤ LATEST_TIME
  pub arrives_in_day : (first : Stop) (rest : List Stop) → v.stops.items ≡ first ∷ rest → v.ready + first.leg ≤ LATEST_TIME
