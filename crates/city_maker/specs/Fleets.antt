-- The settings and the fleet of a city.
use Rattle.std.specs.Prelude.{ℕ, ◌+◌, List, length, map}
use Rattle.std.specs.List.{range_with_len}
use Rattle.ride_model.specs.declared.settings.Settings.{Settings}
use Rattle.ride_model.specs.declared.vehicle.Vehicle.{Vehicle}
use Rattle.ride_model.specs.Fleet.{idle_vehicle}
use Rattle.city_maker.specs.declared.plan.CityPlan.{CityPlan}
use Rattle.city_maker.specs.Draws.{draw_at}
use Rattle.city_maker.specs.Plan.{nodes_of}
use Rattle.city_maker.specs.Roads.{neighbour_pairs}

-- the settings where none is set
abbrev pub default_settings : Settings
default_settings = record { batch = 32; penalty = 3600; drive = 1; wait = 0; lead = 0; dwell = 0; log = 1 }

-- how many draws the roads take: one a pair of neighbours
unfoldable pub road_draws : CityPlan → ℕ
road_draws plan = length (neighbour_pairs plan.side)

-- the vehicle that comes after so many others: of 4 seats, idle at a drawn node from time 0 on
unfoldable pub vehicle_of : CityPlan → ℕ → Vehicle
vehicle_of plan before = idle_vehicle (before + 1) 4 0 (1 + draw_at plan.seed (road_draws plan + before) (nodes_of plan)) 0

-- the fleet of a city
abbrev pub fleet_of : CityPlan → List Vehicle
fleet_of plan = map (vehicle_of plan) (range_with_len 0 plan.vehicles)
