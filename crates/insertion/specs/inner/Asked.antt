-- What is asked of a search for a place.
use Rattle.std.specs.Prelude.{◌≡◌, ℕ, ◌≤◌, map, None}
use Rattle.ride_model.specs.declared.settings.Settings.{Settings}
use Rattle.ride_model.specs.declared.vehicle.Ride.{Ride}
use Rattle.ride_model.specs.declared.vehicle.Stop.{Stop}
use Rattle.ride_model.specs.declared.vehicle.Vehicle.{Vehicle}
use Rattle.ride_model.specs.Road.{RoadMap, IsRoadMap, travel}
use Rattle.ride_model.specs.Settings.{IsSettings}
use Rattle.ride_model.specs.Vehicle.{IsRide, IsLawful}
use Rattle.ride_model.specs.inner.Vehicle.{IsFresh}
use Rattle.ride_model.specs.declared.limits.TheConstants.{LATEST_TIME}
use Rattle.insertion.specs.declared.near.Near.{Near}
use Rattle.insertion.specs.declared.near.NearStop.{NearStop}

-- the travel times between a stop's node and a ride's two nodes
abbrev pub near_stop : RoadMap → Ride → Stop → NearStop
near_stop roads ride stop = record {
  to_from = travel roads stop.node ride.from;
  from_here = travel roads ride.from stop.node;
  to_to = travel roads stop.node ride.to;
  to_here = travel roads ride.to stop.node;
}

-- near holds just the travel times between the vehicle's nodes and the ride's
pub record HoldsTimes (roads : RoadMap) (v : Vehicle) (ride : Ride) (near : Near) : Type 0 where
  pub at_from : near.at_from ≡ travel roads v.at ride.from
  pub at_to : near.at_to ≡ travel roads v.at ride.to
  pub direct : near.direct ≡ travel roads ride.from ride.to
  pub stops : near.stops.items ≡ map (near_stop roads ride) v.stops.items

-- over a map the vehicle is lawful, the ride is one that waits and that the vehicle does not have, and near holds the times;
-- the batch's time and the settings are in their ranges
pub record IsAsked (roads : RoadMap) (v : Vehicle) (ride : Ride) (time : ℕ) (settings : Settings) (near : Near) : Type 0 where
  pub map_fits : IsRoadMap roads
  pub lawful : IsLawful roads v
  pub ride_fits : IsRide roads ride
  pub waits : ride.picked ≡ None
  pub fresh : IsFresh v.rides.items ride.id
  pub time_limit : time ≤ LATEST_TIME
  pub settings_fit : IsSettings settings
  pub near_holds : HoldsTimes roads v ride near
