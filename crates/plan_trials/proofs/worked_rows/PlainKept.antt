-- The plain path is finished, and its promises are kept.
use Rattle.std.proofs.Common.{◌≡◌, ◌≢◌, ℕ, ◌+◌, ◌≤◌, List, [], ◌∷◌, map, refl, sym, subst, arith}
use Rattle.std.specs.Prelude.{All, IfSome, Some, None, Contains, IsFalse}
use Rattle.std.specs.List.{IsDistinct}
use Rattle.std.proofs.lemmas.List.Elements.{All-from_recursion}
use Rattle.model_laws.proofs.plain.Each.{all_of_one, all_of_two, all_of_none}
use Rattle.ride_model.specs.declared.vehicle.Ride.{Ride}
use Rattle.ride_model.specs.declared.vehicle.Stop.{Stop}
use Rattle.ride_model.specs.declared.vehicle.Vehicle.{Vehicle}
use Rattle.ride_model.specs.Road.{travel, travel_within}
use Rattle.ride_model.specs.Vehicle.{IsRide, IsPlanFor, IsLawful, visit_of, visits_due, stops_of, ride_ids}
use Rattle.ride_model.specs.Keeps.{breaks_ride}
use Rattle.ride_model.specs.Offers.{offer_of}
use Rattle.ride_model.specs.State.{State}
use Rattle.ride_model.specs.Step.{request_step, ask_step}
use Rattle.ride_model.specs.Legal.{replay}
use Rattle.ride_model.specs.History.{IsFinished, entries_of}
use Rattle.ride_model.specs.Promises.{is_late, KeepsState, KeepsTimes, KeepsPromises}
use Rattle.plan_trials.specs.worked_rows.Roads.{four_nodes}
use Rattle.plan_trials.specs.worked_rows.Vehicles.{idle_vehicle, ride_7, with_ride_7, pickup, dropoff}
use Rattle.plan_trials.specs.worked_rows.PlainPath.{plain_path, start, one_by_one}

pub plain_is_finished : IsFinished 1 1 start plain_path
unfolding replay travel travel_within offer_of request_step ask_step
plain_is_finished = record { feeds_whole = refl; desks_whole = refl; all_opened = refl; none_open = refl; none_given_up = refl }

idle_is_lawful : IsLawful four_nodes (idle_vehicle 1 2 1)
unfolding IsDistinct
idle_is_lawful = record {
  routed = record {
    some_seat = omega arith;
    seats_limit = omega arith;
    chairs_limit = omega arith;
    at_node = (omega arith, omega arith);
    ready_limit = omega arith;
    rides_fit = all_of_none (IsRide four_nodes);
    picked_before = all_of_none (λ (ride : Ride). IfSome ride.picked (λ picked. picked ≤ 0));
    planned = record {
      ids_differ = tt;
      each_ride = all_of_none (λ (ride : Ride). map visit_of (stops_of ride.id []) ≡ visits_due ride ride.picked);
      each_stop = all_of_none (λ (stop : Stop). Contains (ride_ids []) stop.ride);
    };
    legs = tt;
  };
  loads = refl;
}

ride_fits : IsRide four_nodes ride_7
ride_fits = record {
  from_node = (omega arith, omega arith);
  to_node = (omega arith, omega arith);
  nodes_differ = λ same. omega (arith, same);
  seats_limit = omega arith;
  chairs_limit = omega arith;
  some_load = omega arith;
  latest_limit = omega arith;
  some_seconds = omega arith;
  longest_limit = omega arith;
}

promised_is_lawful : IsLawful four_nodes (with_ride_7 2)
unfolding IsDistinct travel travel_within
promised_is_lawful = record {
  routed = record {
    some_seat = omega arith;
    seats_limit = omega arith;
    chairs_limit = omega arith;
    at_node = (omega arith, omega arith);
    ready_limit = omega arith;
    rides_fit = all_of_one (IsRide four_nodes) ride_7 ride_fits;
    picked_before = all_of_one (λ (ride : Ride). IfSome ride.picked (λ picked. picked ≤ 0)) ride_7 tt;
    planned = record {
      ids_differ = (tt, tt);
      each_ride = all_of_one (λ (ride : Ride). map visit_of (stops_of ride.id (with_ride_7 2).stops.items) ≡ visits_due ride ride.picked) ride_7 refl;
      each_stop = all_of_two (λ (stop : Stop). Contains (ride_ids (ride_7 ∷ [])) stop.ride) (pickup 7 2 60) (dropoff 7 4 120)
          (0, omega arith, refl) (0, omega arith, refl);
    };
    legs = (refl, (refl, tt));
  };
  loads = refl;
}

idle_lawful : All (IsLawful four_nodes) (idle_vehicle 1 2 1 ∷ [])
idle_lawful = all_of_one (IsLawful four_nodes) (idle_vehicle 1 2 1) idle_is_lawful

promised_lawful : All (IsLawful four_nodes) (with_ride_7 2 ∷ [])
promised_lawful = all_of_one (IsLawful four_nodes) (with_ride_7 2) promised_is_lawful

-- an idle vehicle has no times
idle_times : (s : State) (late : List ℕ) → All (KeepsTimes s late) (idle_vehicle 1 2 1 ∷ [])
idle_times s late = all_of_one (KeepsTimes s late) (idle_vehicle 1 2 1)
    (all_of_none (λ (ride : Ride). IsFalse (is_late late ride.id) → IsFalse (breaks_ride (idle_vehicle 1 2 1) s.settings.dwell ride)))

-- ride 7 is picked up after a minute and dropped after three
promised_times : (s : State) (late : List ℕ) → s.settings.dwell ≡ 0 → All (KeepsTimes s late) (with_ride_7 2 ∷ [])
promised_times s late at_once = all_of_one (KeepsTimes s late) (with_ride_7 2)
    (all_of_one (λ (ride : Ride). IsFalse (is_late late ride.id) → IsFalse (breaks_ride (with_ride_7 2) s.settings.dwell ride)) ride_7
    (λ _. subst (λ dwell. IsFalse (breaks_ride (with_ride_7 2) dwell ride_7)) (sym at_once) refl))

pub plain_keeps : KeepsPromises start plain_path
unfolding KeepsPromises travel travel_within offer_of request_step ask_step
plain_keeps = (
  record { lawful = idle_lawful; times = idle_times start [] },
  tt,
  (
    record { lawful = idle_lawful; times = idle_times start [] },
    tt,
    (
      record { lawful = idle_lawful; times = idle_times start [] },
      tt,
      (
        record { lawful = idle_lawful; times = idle_times start [] },
        tt,
        (
          record { lawful = promised_lawful; times = promised_times start [] refl },
          tt,
          (
            record { lawful = promised_lawful; times = promised_times start [] refl },
            tt,
            record { lawful = promised_lawful; times = promised_times start [] refl },
          ),
        ),
      ),
    ),
  ),
)
