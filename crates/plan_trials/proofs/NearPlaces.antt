-- What is asked of the example vehicle.
use Rattle.std.proofs.Common.{ℕ, zero, suc, ◌≤◌, refl, arith}
use Rattle.std.specs.Prelude.{None}
use Rattle.ride_model.specs.Road.{travel, travel_within}
use Rattle.ride_model.specs.inner.Vehicle.{IsFresh}
use Rattle.plan_trials.specs.SmallPlans.{four_nodes, ride_of, promised}
use Rattle.plan_trials.proofs.SmallPlans.{map_fits, promised_is_lawful, ride_9}
use Rattle.insertion.specs.inner.Asked.{IsAsked}
use Rattle.plan_trials.specs.NearPlaces.{settings_of, near_3_to_4}

pub asked : (wait dwell : ℕ) → wait ≤ 1000 → dwell ≤ 3600
    → IsAsked four_nodes promised (ride_of 9 3 4 None) 0 (settings_of wait dwell) near_3_to_4
unfolding travel travel_within
asked wait dwell wait_fits dwell_fits = record {
  map_fits = map_fits;
  lawful = promised_is_lawful;
  ride_fits = ride_9;
  waits = refl;
  fresh = not_there;
  time_limit = omega arith;
  settings_fit = record {
    some_batch = omega arith;
    batch_limit = omega arith;
    penalty_limit = omega arith;
    drive_limit = omega arith;
    wait_limit = wait_fits;
    lead_limit = omega arith;
    dwell_limit = dwell_fits;
    log_first = omega arith;
    log_limit = omega arith;
  };
  near_holds = record { at_from = refl; at_to = refl; direct = refl; stops = refl };
}
  where
    not_there : IsFresh promised.rides.items 9
    not_there (zero, within, is) = absurd (omega (arith, is))
    not_there (suc k, within, is) = absurd (omega (arith, within))
