-- A plan as it is, and when a pickup that is put into it would be.
use Rattle.std.specs.Prelude.{ℕ, zero, suc, ◌+◌, Bool, false, nat_le, List, [], ◌∷◌, Option, Some, None, option_map}
use Rattle.ride_model.specs.declared.settings.Settings.{Settings}
use Rattle.ride_model.specs.declared.vehicle.Vehicle.{Vehicle}
use Rattle.ride_model.specs.Times.{times_of}
use Rattle.ride_model.specs.Offers.{start_of}
use Rattle.insertion.specs.declared.near.Near.{Near}
use Rattle.insertion.specs.declared.plan.Plan.{Plan}
use Rattle.insertion.specs.inner.Joined.{to_pickup_of}

-- a vehicle's plan for a batch of this time
abbrev pub plan_of : Vehicle → ℕ → Settings → Plan
plan_of v time settings = record {
  time = time;
  start = start_of v settings.lead time;
  times = record { items = times_of v (start_of v settings.lead time) settings.dwell };
}

-- when a vehicle with these arrivals leaves for a place
abbrev pub leave_at : ℕ → ℕ → List ℕ → ℕ → ℕ
leave_at start dwell times zero = start
leave_at start dwell [] (suc place) = start
leave_at start dwell (time ∷ times) (suc place) = leave_at (time + dwell) dwell times place

-- the arrival at a pickup before place i, where its leg is there
abbrev pub pickup_at : Near → ℕ → Plan → ℕ → Option ℕ
pickup_at near dwell plan i = option_map (λ leg. leave_at plan.start dwell plan.times.items i + leg) (to_pickup_of near i)

-- whether there is a number, and it is not above a limit
abbrev pub is_by : ℕ → Option ℕ → Bool
is_by limit None = false
is_by limit (Some number) = nat_le number limit
