-- Examples: a vehicle that has promised one ride of other limits.
use Rattle.std.specs.Prelude.{ℕ, [], ◌∷◌, Some, None}
use Rattle.ride_model.specs.declared.vehicle.Vehicle.{Vehicle}
use Rattle.plan_trials.specs.SmallPlans.{ride_of, pickup_at, dropoff_at, vehicle_of}

-- on the way to the pickup at node 2, so many seconds away
abbrev pub on_the_way : ℕ → ℕ → ℕ → ℕ → ℕ → Vehicle
on_the_way at ready leg latest longest =
    vehicle_of at ready (record (ride_of 7 2 4 None) { latest = latest; longest = longest } ∷ []) (pickup_at 7 2 leg ∷ dropoff_at 7 4 120 ∷ [])

-- at the drop-off, with the rider aboard since the time 60
abbrev pub with_rider : ℕ → ℕ → Vehicle
with_rider ready longest = vehicle_of 4 ready (record (ride_of 7 2 4 (Some 60)) { longest = longest } ∷ []) (dropoff_at 7 4 0 ∷ [])
