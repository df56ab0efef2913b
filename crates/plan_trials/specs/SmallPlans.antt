-- Examples: a road of four nodes, a minute between neighbours, and a vehicle on it.
use Rattle.std.specs.Prelude.{ℕ, List, [], ◌∷◌, true, Option, Some, None}
use Rattle.ride_model.specs.declared.network.RoadArc.{RoadArc}
use Rattle.ride_model.specs.declared.vehicle.Kind.TheVariants.{Pickup, Dropoff}
use Rattle.ride_model.specs.declared.vehicle.Ride.{Ride}
use Rattle.ride_model.specs.declared.vehicle.Stop.{Stop}
use Rattle.ride_model.specs.declared.vehicle.Vehicle.{Vehicle}
use Rattle.ride_model.specs.declared.offer.Offer.{Offer}
use Rattle.ride_model.specs.Road.{RoadMap}

abbrev pub arc : ℕ → ℕ → RoadArc
arc tail head = record { tail = tail; head = head; seconds = 60 }

abbrev pub four_nodes : RoadMap
four_nodes = record { nodes = 4; arcs = arc 1 2 ∷ arc 2 1 ∷ arc 2 3 ∷ arc 3 2 ∷ arc 3 4 ∷ arc 4 3 ∷ [] }

-- a ride of one seat
abbrev pub ride_of : ℕ → ℕ → ℕ → Option ℕ → Ride
ride_of id from to picked =
    record { id = id; from = from; to = to; seats = 1; chairs = 0; latest = 600; longest = 300; picked = picked }

abbrev pub pickup_at : ℕ → ℕ → ℕ → Stop
pickup_at ride node leg = record { ride = ride; kind = Pickup; node = node; leg = leg }

abbrev pub dropoff_at : ℕ → ℕ → ℕ → Stop
dropoff_at ride node leg = record { ride = ride; kind = Dropoff; node = node; leg = leg }

-- a vehicle of two seats
abbrev pub vehicle_of : ℕ → ℕ → List Ride → List Stop → Vehicle
vehicle_of at ready rides stops = record {
  id = 1;
  seats = 2;
  chairs = 0;
  at = at;
  ready = ready;
  duty = true;
  version = 1;
  rides = record { items = rides };
  stops = record { items = stops };
}

-- it has promised ride 7 alone; with ride 9 pooled in; at the pickup of ride 7; at its drop-off
abbrev pub promised : Vehicle
promised = vehicle_of 1 0 (ride_of 7 2 4 None ∷ []) (pickup_at 7 2 60 ∷ dropoff_at 7 4 120 ∷ [])

abbrev pub pooled : Vehicle
pooled = vehicle_of 1 0 (ride_of 7 2 4 None ∷ ride_of 9 3 4 None ∷ [])
    (pickup_at 7 2 60 ∷ pickup_at 9 3 60 ∷ dropoff_at 9 4 60 ∷ dropoff_at 7 4 0 ∷ [])

abbrev pub arrived : Vehicle
arrived = vehicle_of 2 60 (ride_of 7 2 4 None ∷ []) (pickup_at 7 2 0 ∷ dropoff_at 7 4 120 ∷ [])

abbrev pub carrying : Vehicle
carrying = vehicle_of 4 210 (ride_of 7 2 4 (Some 60) ∷ []) (dropoff_at 7 4 0 ∷ [])

-- the places at which ride 9 is pooled
abbrev pub pooling : Offer
pooling = record {
  i = 1;
  j = 1;
  cost = 0;
  start = 0;
  joins = record { to_pickup = 60; after_pickup = 60; to_dropoff = 60; after_dropoff = 0 };
}
