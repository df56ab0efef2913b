-- What the trials hand over is allowed.
use Rattle.std.proofs.Common.{◌≡◌, ℕ, ◌<◌, ◌≤◌, ◌^◌, true, Bool, List, [], ◌∷◌, eqb, refl, arith}
use Rattle.std.specs.Prelude.{All, None, not, is_none}
use Rattle.std.specs.List.{IsDistinct}
use Rattle.std.proofs.lemmas.List.Elements.{All-from_recursion}
use Rattle.std.proofs.lemmas.Bool.{not-true, and_parts}
use Rattle.ride_model.specs.declared.vehicle.Ride.{Ride}
use Rattle.ride_model.specs.declared.vehicle.Vehicle.{Vehicle}
use Rattle.ride_model.specs.Fleet.{IsFleet}
use Rattle.ride_model.specs.inner.Seating.{IsBatchOver}
use Rattle.ride_model.specs.Vehicle.{IsRide, IsLawful, IsRouted}
use Rattle.ride_model.specs.inner.Vehicle.{IsFresh}
use Rattle.model_laws.proofs.plain.Among.{among_from_contains}
use Rattle.model_laws.proofs.plain.Options.{none_from_is_none}
use Rattle.plan_trials.specs.SmallPlans.{four_nodes}
use Rattle.plan_trials.specs.LineRoad.{is_ride}
use Rattle.plan_trials.proofs.LineRoad.{a_ride}
use Rattle.plan_trials.proofs.NearInLine.{settings_fit}
use Rattle.seating_trials.specs.TwoRequests.{IsOverLine, idle, settings, batch_of, may_ask}

one-two : IsDistinct eqb (1 ∷ 2 ∷ [])
unfolding IsDistinct
one-two = ((refl, tt), (tt, tt))

pub none-differ : IsDistinct eqb []
unfolding IsDistinct
none-differ = tt

-- the two vehicles are a fleet
pub fleet : (duty : Bool) → IsFleet (idle 1 1 true ∷ idle 2 4 duty ∷ [])
fleet duty = record {
  few = omega arith;
  ids_differ = one-two;
  ids_fit = All-from_recursion (λ (v : Vehicle). v.id < 10 ^ 18) (idle 1 1 true ∷ idle 2 4 duty ∷ []) (omega arith, (omega arith, tt));
}

-- an idle vehicle at a node
idle-routed : (id at : ℕ) (duty : Bool) → 1 ≤ at → at ≤ 4 → IsRouted four_nodes (idle id at duty)
unfolding IsDistinct
idle-routed id at duty some few = record {
  some_seat = omega arith;
  seats_limit = omega arith;
  chairs_limit = omega arith;
  at_node = (some, few);
  ready_limit = omega arith;
  rides_fit = All-from_recursion _ [] tt;
  picked_before = All-from_recursion _ [] tt;
  planned = record { ids_differ = tt; each_ride = All-from_recursion _ [] tt; each_stop = All-from_recursion _ [] tt };
  legs = tt;
}

pub both-lawful : (requests : List Ride) (duty : Bool) → All (IsLawful four_nodes) (batch_of requests duty).vehicles
both-lawful requests duty = All-from_recursion (IsLawful four_nodes) (idle 1 1 true ∷ idle 2 4 duty ∷ []) (
  record { routed = idle-routed 1 1 true (omega arith) (omega arith); loads = refl },
  (record { routed = idle-routed 2 4 duty (omega arith) (omega arith); loads = refl }, tt),
)

both-routed : (duty : Bool) → All (IsRouted four_nodes) (idle 1 1 true ∷ idle 2 4 duty ∷ [])
both-routed duty = All-from_recursion (IsRouted four_nodes) (idle 1 1 true ∷ idle 2 4 duty ∷ [])
    (idle-routed 1 1 true (omega arith) (omega arith), (idle-routed 2 4 duty (omega arith) (omega arith), tt))

-- no idle vehicle has a ride
fresh-in-both : (duty : Bool) (id : ℕ) → All (λ (v : Vehicle). IsFresh v.rides.items id) (idle 1 1 true ∷ idle 2 4 duty ∷ [])
fresh-in-both duty id = All-from_recursion (λ (v : Vehicle). IsFresh v.rides.items id) (idle 1 1 true ∷ idle 2 4 duty ∷ [])
    (λ there. among_from_contains [] id there, (λ there. among_from_contains [] id there, tt))

-- the two rides may be asked
pub ids-differ : (first second : Ride) → may_ask first second ≡ true → IsDistinct eqb (first.id ∷ second.id ∷ [])
unfolding IsDistinct
ids-differ first second h =
    let apart = (and_parts _ (not (eqb first.id second.id)) h).1 in
    ((not-true (eqb first.id second.id) apart, tt), (tt, tt))

over-map : (first second : Ride) (duty : Bool) → may_ask first second ≡ true → IsBatchOver four_nodes (batch_of (first ∷ second ∷ []) duty)
over-map first second duty h =
    let (h4, apart) = and_parts _ (not (eqb first.id second.id)) h in
    let (h3, second_waits) = and_parts _ (is_none second.picked) h4 in
    let (h2, second_fits) = and_parts _ (is_ride second) h3 in
    let (first_fits, first_waits) = and_parts (is_ride first) (is_none first.picked) h2 in
    let both = first ∷ second ∷ [] in
    record {
      settings_fit = settings_fit settings refl;
      few = omega arith;
      vehicles_fit = both-routed duty;
      rides_fit = All-from_recursion (IsRide four_nodes) both (a_ride first first_fits, (a_ride second second_fits, tt));
      rides_wait = All-from_recursion (λ (ride : Ride). ride.picked ≡ None) both
          (none_from_is_none first.picked first_waits, (none_from_is_none second.picked second_waits, tt));
      rides_fresh = All-from_recursion (λ (ride : Ride). All (λ (v : Vehicle). IsFresh v.rides.items ride.id) (batch_of both duty).vehicles) both
          (fresh-in-both duty first.id, (fresh-in-both duty second.id, tt));
    }

pub over-line : (first second : Ride) (duty : Bool) → may_ask first second ≡ true → IsOverLine (batch_of (first ∷ second ∷ []) duty)
over-line first second duty h = record {
  in_time = omega arith;
  over_map = over-map first second duty h;
  lawful = both-lawful (first ∷ second ∷ []) duty;
}

-- and so may no ride
none-over-map : (duty : Bool) → IsBatchOver four_nodes (batch_of [] duty)
none-over-map duty = record {
  settings_fit = settings_fit settings refl;
  few = omega arith;
  vehicles_fit = both-routed duty;
  rides_fit = All-from_recursion _ [] tt;
  rides_wait = All-from_recursion _ [] tt;
  rides_fresh = All-from_recursion _ [] tt;
}

pub none-over-line : (duty : Bool) → IsOverLine (batch_of [] duty)
none-over-line duty = record { in_time = omega arith; over_map = none-over-map duty; lawful = both-lawful [] duty }
