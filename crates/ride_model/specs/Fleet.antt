-- Fleets.
use Rattle.std.specs.Prelude.{◌≡◌, ℕ, ◌<◌, ◌≤◌, ◌^◌, true, List, [], length, map, All, nat_eq}
use Rattle.std.specs.List.{IsDistinct}
use Rattle.ride_model.specs.declared.settings.Settings.{Settings}
use Rattle.ride_model.specs.declared.vehicle.Vehicle.{Vehicle}
use Rattle.ride_model.specs.declared.limits.TheConstants.{MOST_VEHICLES}
use Rattle.ride_model.specs.Road.{RoadMap}
use Rattle.ride_model.specs.Settings.{IsSettings}
use Rattle.ride_model.specs.Vehicle.{IsLawful}

-- at most 1,000 vehicles, of distinct ids below 10^18
pub record IsFleet (vehicles : List Vehicle) : Type 0 where
  pub few : length vehicles ≤ MOST_VEHICLES
  pub ids_differ : IsDistinct nat_eq (map (λ (v : Vehicle). v.id) vehicles)
  pub ids_fit : All (λ (v : Vehicle). v.id < 10 ^ 18) vehicles

-- a vehicle that starts idle and on duty
abbrev pub idle_vehicle : ℕ → ℕ → ℕ → ℕ → ℕ → Vehicle
idle_vehicle id seats chairs at ready =
    record { id = id; seats = seats; chairs = chairs; at = at; ready = ready; duty = true; version = 0; rides = record { items = [] }; stops = record { items = [] } }

-- a session may start so: the settings are within their ranges, and each vehicle is lawful over the map, idle and of version 0
pub record MayStart (roads : RoadMap) (settings : Settings) (vehicles : List Vehicle) : Type 0 where
  pub settings_fit : IsSettings settings
  pub lawful : All (IsLawful roads) vehicles
  pub idle : All (λ (v : Vehicle). v.stops.items ≡ []) vehicles
  pub first_versions : All (λ (v : Vehicle). v.version ≡ 0) vehicles
