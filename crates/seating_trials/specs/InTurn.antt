-- Batches that one pricer prices in turn, on a road of four nodes in a line: a vehicle that drives, and maybe more.
use Rattle.std.specs.Prelude.{◌==◌, ◌&&◌, ℕ, Bool, true, false, List, [], ◌∷◌, None}
use Rattle.ride_model.specs.declared.vehicle.Ride.{Ride}
use Rattle.ride_model.specs.declared.vehicle.Vehicle.{Vehicle}
use Rattle.ride_model.specs.Seating.{BatchCopy}
use Rattle.ride_model.specs.Vehicle.{ride_ids}
use Rattle.plan_trials.specs.LineRoad.{is_lawful, is_new}
use Rattle.plan_trials.specs.SmallPlans.{ride_of}
use Rattle.seating_trials.specs.TwoRequests.{idle, settings}

-- how many rides are asked for, in how many vehicles
abbrev pub count_of : Bool → ℕ
count_of false = 1
count_of true = 2

abbrev pub asked : Bool → List Ride
asked false = ride_of 9 3 4 None ∷ []
asked true = ride_of 9 3 4 None ∷ ride_of 8 4 3 None ∷ []

-- a vehicle, alone or with an idle one
abbrev pub fleet_of : Vehicle → Bool → List Vehicle
fleet_of first false = first ∷ []
fleet_of first true = first ∷ idle 2 4 true ∷ []

abbrev pub turn_of : ℕ → Vehicle → Bool → BatchCopy
turn_of time first more = record {
  number = 1;
  desk = 0;
  time = time;
  settings = settings;
  requests = asked more;
  vehicles = fleet_of first more;
}

-- whether a vehicle may be the first: it is lawful, and has none of the rides that are asked for
abbrev pub may_drive : Vehicle → Bool
may_drive v = is_lawful v && v.id == 1 && is_new 9 (ride_ids v.rides.items) && is_new 8 (ride_ids v.rides.items)
