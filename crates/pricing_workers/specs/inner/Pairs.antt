-- What a pair can be priced by.
use Rattle.std.specs.Prelude.{◌≡◌, ◌≤◌, List, All, None}
use Rattle.ride_model.specs.declared.vehicle.Ride.{Ride}
use Rattle.ride_model.specs.declared.vehicle.Vehicle.{Vehicle}
use Rattle.ride_model.specs.Road.{RoadMap, IsRoadMap}
use Rattle.ride_model.specs.Seating.{BatchCopy}
use Rattle.ride_model.specs.Settings.{IsSettings}
use Rattle.ride_model.specs.Vehicle.{IsRide, IsLawful}
use Rattle.ride_model.specs.inner.Vehicle.{IsFresh}
use Rattle.ride_model.specs.declared.limits.TheConstants.{LATEST_TIME}
use Rattle.pricing_workers.specs.declared.times.Times.{Times}
use Rattle.pricing_workers.specs.declared.wanted.Wanted.{Wanted}
use Rattle.pricing_workers.specs.inner.Rows.{HoldsRows, HoldTimes}
use Rattle.pricing_workers.specs.inner.Wanted.{IsWanted}

-- a ride that fits the map, waits, and is in no vehicle of the batch
pub record IsRequest (roads : RoadMap) (batch : BatchCopy) (ride : Ride) : Type 0 where
  pub fits : IsRide roads ride
  pub waits : ride.picked ≡ None
  pub fresh : All (λ (v : Vehicle). IsFresh v.rides.items ride.id) batch.vehicles

-- a batch over a map that is within its limits, with lawful vehicles and in due time, and what is wanted for it
pub record MayFill (roads : RoadMap) (batch : BatchCopy) (wanted : Wanted) : Type 0 where
  pub map_fits : IsRoadMap roads
  pub settings_fit : IsSettings batch.settings
  pub time_limit : batch.time ≤ LATEST_TIME
  pub lawful : All (IsLawful roads) batch.vehicles
  pub wanted_is : IsWanted batch.settings batch.time batch.vehicles wanted

-- and a request of it with its times
pub record MayPrice (roads : RoadMap) (batch : BatchCopy) (wanted : Wanted) (times : Times) (ride : Ride) : Type 0 where
  pub may_fill : MayFill roads batch wanted
  pub request : IsRequest roads batch ride
  pub rows : HoldsRows roads ride wanted.nodes.items times

-- and requests of it with the times of each
pub record MayPriceAll (roads : RoadMap) (batch : BatchCopy) (wanted : Wanted) (rides : List Ride) (times : List Times) : Type 0 where
  pub may_fill : MayFill roads batch wanted
  pub requests : All (IsRequest roads batch) rides
  pub rows : HoldTimes roads rides wanted.nodes.items times
