-- Batches of two requests and two idle vehicles, on a road of four nodes in a line, a minute between neighbours.
use Rattle.std.specs.Prelude.{◌==◌, ◌&&◌, not, ℕ, Bool, true, List, [], ◌∷◌, is_none}
use Rattle.ride_model.specs.declared.settings.Settings.{Settings}
use Rattle.ride_model.specs.declared.vehicle.Ride.{Ride}
use Rattle.ride_model.specs.declared.vehicle.Vehicle.{Vehicle}
use Rattle.ride_model.specs.Seating.{BatchCopy}
use Rattle.batch_commit.specs.inner.Table.{IsPriceable}
use Rattle.plan_trials.specs.LineRoad.{is_ride}
use Rattle.plan_trials.specs.SmallPlans.{four_nodes}

-- a vehicle of two seats that has no ride
abbrev pub idle : ℕ → ℕ → Bool → Vehicle
idle id at duty = record {
  id = id;
  seats = 2;
  chairs = 0;
  at = at;
  ready = 0;
  duty = duty;
  version = 0;
  rides = record { items = [] };
  stops = record { items = [] };
}

-- a second of driving costs 1, and one of waiting 2
abbrev pub settings : Settings
settings = record { batch = 32; penalty = 3600; drive = 1; wait = 2; lead = 0; dwell = 0; log = 1 }

-- a batch over an idle vehicle at node 1 and one at node 4, which may be off duty
abbrev pub batch_of : List Ride → Bool → BatchCopy
batch_of requests duty = record {
  number = 1;
  desk = 0;
  time = 0;
  settings = settings;
  requests = requests;
  vehicles = idle 1 1 true ∷ idle 2 4 duty ∷ [];
}

-- whether two rides may be the requests of a batch
abbrev pub may_ask : Ride → Ride → Bool
may_ask first second =
    is_ride first && is_none first.picked && is_ride second && is_none second.picked && not (first.id == second.id)

-- a batch can be priced over the road
abbrev pub IsOverLine : BatchCopy → Type 0
IsOverLine batch = IsPriceable four_nodes batch
