-- What the turns of a pricer hand over is allowed.
use Rattle.std.proofs.Common.{◌≡◌, ℕ, ◌≤◌, ◌<◌, ◌^◌, true, false, Bool, [], ◌∷◌, eqb, eqb-true, refl, sym, subst, arith}
use Rattle.std.specs.Prelude.{All, None}
use Rattle.std.specs.List.{IsDistinct}
use Rattle.std.proofs.lemmas.List.Elements.{All-from_recursion}
use Rattle.std.proofs.lemmas.Bool.{and_parts}
use Rattle.ride_model.specs.declared.vehicle.Ride.{Ride}
use Rattle.ride_model.specs.declared.vehicle.Vehicle.{Vehicle}
use Rattle.ride_model.specs.Fleet.{IsFleet}
use Rattle.ride_model.specs.declared.limits.TheConstants.{LATEST_TIME}
use Rattle.ride_model.specs.Seating.{BatchCopy}
use Rattle.ride_model.specs.inner.Seating.{IsBatchOver}
use Rattle.ride_model.specs.Vehicle.{IsLawful, IsRide, ride_ids}
use Rattle.ride_model.specs.inner.Vehicle.{IsFresh}
use Rattle.model_laws.proofs.plain.Among.{among_from_contains}
use Rattle.plan_trials.specs.SmallPlans.{four_nodes, ride_of}
use Rattle.plan_trials.specs.LineRoad.{is_lawful, is_new}
use Rattle.plan_trials.proofs.LineRoad.{a_ride, fresh, lawful}
use Rattle.plan_trials.proofs.NearInLine.{settings_fit}
use Rattle.seating_trials.specs.TwoRequests.{IsOverLine, idle, settings}
use Rattle.seating_trials.specs.InTurn.{asked, fleet_of, may_drive, turn_of}
use Rattle.seating_trials.proofs.TwoRequests.{both-lawful}

-- what is known of a vehicle that may be the first
record Drives (v : Vehicle) : Type 0 where
  pub lawful : IsLawful four_nodes v
  pub first : v.id ≡ 1
  pub nine : IsFresh v.rides.items 9
  pub eight : IsFresh v.rides.items 8

drives : (v : Vehicle) → may_drive v ≡ true → Drives v
drives v h =
    let ids = ride_ids v.rides.items in
    let (h3, eight) = and_parts _ (is_new 8 ids) h in
    let (h2, nine) = and_parts _ (is_new 9 ids) h3 in
    let (is, first) = and_parts (is_lawful v) (eqb v.id 1) h2 in
    record { lawful = lawful v is; first = eqb-true v.id 1 first; nine = fresh ids 9 nine; eight = fresh ids 8 eight }

idle-lawful : IsLawful four_nodes (idle 2 4 true)
idle-lawful = both-lawful [] true 1 (idle 2 4 true) (omega arith)

fleet-lawful : (v : Vehicle) (more : Bool) → may_drive v ≡ true → All (IsLawful four_nodes) (fleet_of v more)
fleet-lawful v false h = All-from_recursion (IsLawful four_nodes) (v ∷ []) ((drives v h).lawful, tt)
fleet-lawful v true h = All-from_recursion (IsLawful four_nodes) (v ∷ idle 2 4 true ∷ []) ((drives v h).lawful, (idle-lawful, tt))

-- the vehicles are a fleet
pub fleet-is : (v : Vehicle) (more : Bool) → may_drive v ≡ true → IsFleet (fleet_of v more)
unfolding IsDistinct
fleet-is v false h = record {
  few = omega arith;
  ids_differ = (tt, tt);
  ids_fit = All-from_recursion (λ (w : Vehicle). w.id < 10 ^ 18) (v ∷ []) (omega (arith, (drives v h).first), tt);
}
fleet-is v true h = record {
  few = omega arith;
  ids_differ = ((subst (λ id. eqb id 2 ≡ false) (sym (drives v h).first) refl, tt), (tt, tt));
  ids_fit = All-from_recursion (λ (w : Vehicle). w.id < 10 ^ 18) (v ∷ idle 2 4 true ∷ [])
      (omega (arith, (drives v h).first), (omega arith, tt));
}

-- the rides that are asked for differ
pub asked-differ : (more : Bool) → IsDistinct eqb (ride_ids (asked more))
unfolding IsDistinct
asked-differ false = (tt, tt)
asked-differ true = ((refl, tt), (tt, tt))

-- the idle vehicle has no ride
none-there : (id : ℕ) → IsFresh [] id
none-there id there = among_from_contains [] id there

fresh-there : (v : Vehicle) (more : Bool) (id : ℕ) → IsFresh v.rides.items id → All (λ (w : Vehicle). IsFresh w.rides.items id) (fleet_of v more)
fresh-there v false id new = All-from_recursion (λ (w : Vehicle). IsFresh w.rides.items id) (v ∷ []) (new, tt)
fresh-there v true id new =
    All-from_recursion (λ (w : Vehicle). IsFresh w.rides.items id) (v ∷ idle 2 4 true ∷ []) (new, (none-there id, tt))

over-map : (time : ℕ) (v : Vehicle) (more : Bool) → may_drive v ≡ true → IsBatchOver four_nodes (turn_of time v more)
over-map time v false h = record {
  settings_fit = settings_fit settings refl;
  few = omega arith;
  vehicles_fit = λ k d low. (fleet-lawful v false h k d low).routed;
  rides_fit = All-from_recursion (IsRide four_nodes) (asked false) (a_ride (ride_of 9 3 4 None) refl, tt);
  rides_wait = All-from_recursion (λ (ride : Ride). ride.picked ≡ None) (asked false) (refl, tt);
  rides_fresh = All-from_recursion (λ (ride : Ride). All (λ (w : Vehicle). IsFresh w.rides.items ride.id) (fleet_of v false)) (asked false)
      (fresh-there v false 9 (drives v h).nine, tt);
}
over-map time v true h = record {
  settings_fit = settings_fit settings refl;
  few = omega arith;
  vehicles_fit = λ k d low. (fleet-lawful v true h k d low).routed;
  rides_fit = All-from_recursion (IsRide four_nodes) (asked true) (a_ride (ride_of 9 3 4 None) refl, (a_ride (ride_of 8 4 3 None) refl, tt));
  rides_wait = All-from_recursion (λ (ride : Ride). ride.picked ≡ None) (asked true) (refl, (refl, tt));
  rides_fresh = All-from_recursion (λ (ride : Ride). All (λ (w : Vehicle). IsFresh w.rides.items ride.id) (fleet_of v true)) (asked true)
      (fresh-there v true 9 (drives v h).nine, (fresh-there v true 8 (drives v h).eight, tt));
}

-- the batch is over the line
pub over-line : (time : ℕ) (v : Vehicle) (more : Bool) (batch : BatchCopy) → batch ≡ turn_of time v more → time ≤ LATEST_TIME
    → may_drive v ≡ true → IsOverLine batch
over-line time v more batch is soon h =
    subst IsOverLine (sym is) (record { in_time = soon; over_map = over-map time v more h; lawful = fleet-lawful v more h })
