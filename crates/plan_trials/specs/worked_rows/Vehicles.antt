-- The rides and vehicles of the worked rows.
use Rattle.std.specs.Prelude.{ℕ, List, [], ◌∷◌, ◌++◌, true, None}
use Rattle.arrayvec.specs.ArrayVec.{ArrayVec}
use Rattle.ride_model.specs.declared.vehicle.Kind.TheVariants.{Pickup, Dropoff}
use Rattle.ride_model.specs.declared.vehicle.Ride.{Ride}
use Rattle.ride_model.specs.declared.vehicle.Stop.{Stop}
use Rattle.ride_model.specs.declared.vehicle.Vehicle.{Vehicle}

-- a ride of one seat: its id, its nodes, its latest pickup and its longest ride
abbrev pub ride_of_one : ℕ → ℕ → ℕ → ℕ → ℕ → Ride
ride_of_one id from to latest longest =
    record { id = id; from = from; to = to; seats = 1; chairs = 0; latest = latest; longest = longest; picked = None }

abbrev pub ride_7 : Ride
ride_7 = ride_of_one 7 2 4 600 300

abbrev pub ride_9 : Ride
ride_9 = ride_of_one 9 3 4 600 300

abbrev pub pickup : ℕ → ℕ → ℕ → Stop
pickup ride node leg = record { ride = ride; kind = Pickup; node = node; leg = leg }

abbrev pub dropoff : ℕ → ℕ → ℕ → Stop
dropoff ride node leg = record { ride = ride; kind = Dropoff; node = node; leg = leg }

-- an idle vehicle of so many seats at a node, as a fleet file gives it
abbrev pub idle_vehicle : ℕ → ℕ → ℕ → Vehicle
idle_vehicle id seats at = record {
  id = id;
  seats = seats;
  chairs = 0;
  at = at;
  ready = 0;
  duty = true;
  version = 0;
  rides = record { items = [] };
  stops = record { items = [] };
}

-- a vehicle with so many more rides
abbrev pub with_rides : Vehicle → ℕ → List Ride → List Stop → Vehicle
with_rides v version rides stops =
    record v { version = version; rides = record { items = rides }; stops = record { items = stops } }

-- a vehicle from node 1 that has promised ride 7 alone
abbrev pub with_ride_7 : ℕ → Vehicle
with_ride_7 seats = with_rides (idle_vehicle 1 seats 1) 1 (ride_7 ∷ []) (pickup 7 2 60 ∷ dropoff 7 4 120 ∷ [])

-- the vehicle with ride 9 pooled in
abbrev pub pooled : Vehicle
pooled = with_rides (idle_vehicle 1 2 1) 2 (ride_7 ∷ ride_9 ∷ [])
    (pickup 7 2 60 ∷ pickup 9 3 60 ∷ dropoff 9 4 60 ∷ dropoff 7 4 0 ∷ [])

-- a ride of one chair and no seat
abbrev pub ride_of_a_chair : ℕ → ℕ → ℕ → Ride
ride_of_a_chair id from to = record (ride_of_one id from to 600 300) { seats = 0; chairs = 1 }

-- a vehicle of one chair that has promised ride 7, of one chair
abbrev pub with_a_chair : Vehicle
with_a_chair = record (with_rides (idle_vehicle 1 2 1) 1 (ride_of_a_chair 7 2 4 ∷ []) (pickup 7 2 60 ∷ dropoff 7 4 120 ∷ []))
    { chairs = 1 }
