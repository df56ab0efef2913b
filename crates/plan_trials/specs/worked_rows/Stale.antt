-- Batches that were opened before something changed.
use Rattle.std.specs.Prelude.{ℕ, List, [], ◌∷◌}
use Rattle.ride_model.specs.declared.reply.RequestState.{RequestState}
use Rattle.ride_model.specs.declared.reply.RequestState.TheVariants.{InBatch, Cancelled}
use Rattle.ride_model.specs.declared.settings.Settings.{Settings}
use Rattle.ride_model.specs.declared.vehicle.Ride.{Ride}
use Rattle.ride_model.specs.declared.vehicle.Vehicle.{Vehicle}
use Rattle.ride_model.specs.Seating.{BatchCopy}
use Rattle.ride_model.specs.State.{State, start_state}
use Rattle.plan_trials.specs.worked_rows.Roads.{four_nodes, default_settings}
use Rattle.plan_trials.specs.worked_rows.Vehicles.{idle_vehicle, ride_of_one}

-- a batch of one request at time 0, over the idle vehicle
abbrev pub batch_of : Settings → Ride → BatchCopy
batch_of settings ride = record {
  number = 1;
  desk = 1;
  time = 0;
  settings = settings;
  requests = ride ∷ [];
  vehicles = idle_vehicle 1 2 1 ∷ [];
}

-- a state at a clock's time, with a vehicle and a request of the batch
abbrev pub at_commit : Settings → Ride → RequestState → Vehicle → ℕ → State
at_commit settings ride state v clock = record (start_state four_nodes settings (v ∷ [])) {
  clock = clock;
  requests = (record { ride = ride; state = state }) ∷ [];
  asked = 1;
  opened = 1;
}
