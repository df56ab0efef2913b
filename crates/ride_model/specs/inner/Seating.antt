-- What only lemmas and lower contracts use beside Seating.antt.
use Rattle.std.specs.Prelude.{◌≡◌, ◌≤◌, length, All, None}
use Rattle.ride_model.specs.declared.vehicle.Ride.{Ride}
use Rattle.ride_model.specs.declared.vehicle.Vehicle.{Vehicle}
use Rattle.ride_model.specs.Road.{RoadMap}
use Rattle.ride_model.specs.Settings.{IsSettings}
use Rattle.ride_model.specs.Vehicle.{IsRide, IsRouted}
use Rattle.ride_model.specs.inner.Vehicle.{IsFresh}
use Rattle.ride_model.specs.declared.limits.TheConstants.{LARGEST_BATCH}
use Rattle.ride_model.specs.Seating.{BatchCopy}

-- a batch whose vehicles are in order, and whose requests fit the map, wait, and are in no vehicle
pub record IsBatchOver (roads : RoadMap) (batch : BatchCopy) : Type 0 where
  pub settings_fit : IsSettings batch.settings
  pub few : length batch.requests ≤ LARGEST_BATCH
  pub vehicles_fit : All (IsRouted roads) batch.vehicles
  pub rides_fit : All (IsRide roads) batch.requests
  pub rides_wait : All (λ (ride : Ride). ride.picked ≡ None) batch.requests
  pub rides_fresh : All (λ (ride : Ride). All (λ (v : Vehicle). IsFresh v.rides.items ride.id) batch.vehicles) batch.requests
