-- What is kept of the vehicles that stand by.
use Rattle.std.specs.Prelude.{◌≡◌, ℕ, List, map, Option}
use Rattle.std.specs.List.{flat_map}
use Rattle.ride_model.specs.declared.vehicle.Ride.{Ride}
use Rattle.ride_model.specs.declared.vehicle.Vehicle.{Vehicle}
use Rattle.ride_model.specs.Road.{RoadMap}
use Rattle.road_times.specs.declared.side.Side.TheVariants.{Back}
use Rattle.road_times.specs.inner.Turned.{travel_by}
use Rattle.idle_moves.specs.declared.standby.Standby.{Standby}
use Rattle.idle_moves.specs.Sheet.{within}

-- a vehicle that stands by
abbrev pub standby_of : Vehicle → Standby
standby_of v = record { vehicle = v.id; version = v.version; node = v.at }

-- these are the vehicles, in order
abbrev pub AreStandbys : List Standby → List Vehicle → Type 0
AreStandbys standbys vehicles = standbys ≡ map standby_of vehicles

-- the times within reach from nodes to pickups, request by request
abbrev pub cells_of : RoadMap → ℕ → List Ride → List ℕ → List (Option ℕ)
cells_of roads reach rides nodes = flat_map (λ (ride : Ride). map (within reach) (map (travel_by Back roads ride.from) nodes)) rides
