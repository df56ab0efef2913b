-- Examples: a batch of one request and one vehicle.
use Rattle.std.specs.Prelude.{◌≡◌, ℕ, [], ◌∷◌}
use Rattle.ride_model.specs.declared.settings.Settings.{Settings}
use Rattle.ride_model.specs.declared.vehicle.Ride.{Ride}
use Rattle.ride_model.specs.declared.vehicle.Vehicle.{Vehicle}
use Rattle.ride_model.specs.Seating.{BatchCopy}

-- settings of this lead
abbrev pub settings_of : ℕ → Settings
settings_of lead = record { batch = 32; penalty = 3600; drive = 1; wait = 0; lead = lead; dwell = 0; log = 1 }

-- batch 1 of desk 1, at the time 0
abbrev pub batch_of_one : ℕ → Ride → Vehicle → BatchCopy
batch_of_one lead ride v =
    record { number = 1; desk = 1; time = 0; settings = settings_of lead; requests = ride ∷ []; vehicles = v ∷ [] }

-- a batch of request 7 and vehicle 1
pub record IsBatchOfOne (lead : ℕ) (batch : BatchCopy) : Type 0 where
  pub ride : Ride
  pub vehicle : Vehicle
  pub batch_is : batch ≡ batch_of_one lead ride vehicle
  pub ride_id : ride.id ≡ 7
  pub vehicle_id : vehicle.id ≡ 1
