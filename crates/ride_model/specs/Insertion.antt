-- Plans with one ride more or less.
use Rattle.std.specs.Prelude.{ℕ, ◌==◌, not, List, [], ◌∷◌, ◌++◌, filter, insert, Option, Some, option_map, option_and_then, unwrap_or}
use Rattle.ride_model.specs.declared.vehicle.Kind.TheVariants.{Pickup, Dropoff}
use Rattle.ride_model.specs.declared.vehicle.Ride.{Ride}
use Rattle.ride_model.specs.declared.vehicle.Stop.{Stop}
use Rattle.ride_model.specs.declared.vehicle.Vehicle.{Vehicle}
use Rattle.ride_model.specs.Road.{RoadMap, travel}

-- the stops from the node at, each with the travel time from the one before it as its leg; absent where one is
abbrev pub routed : RoadMap → ℕ → List Stop → Option (List Stop)
routed map at [] = Some []
routed map at (stop ∷ stops) =
    option_and_then (λ leg. option_map (λ rest. record stop { leg = leg } ∷ rest) (routed map stop.node stops)) (travel map at stop.node)

-- the new stops of a ride, their legs yet to be set
abbrev pub pickup_of : Ride → Stop
pickup_of ride = record { ride = ride.id; kind = Pickup; node = ride.from; leg = 0 }

abbrev pub dropoff_of : Ride → Stop
dropoff_of ride = record { ride = ride.id; kind = Dropoff; node = ride.to; leg = 0 }

-- the stops with the ride's pickup directly before old place i and its drop-off directly before old place j, i ≤ j;
-- where the two are one place the pickup stands directly before the drop-off
abbrev pub stops_with : Ride → ℕ → ℕ → List Stop → List Stop
stops_with ride i j stops = insert (insert stops j (dropoff_of ride)) i (pickup_of ride)

-- a vehicle with these rides and stops
abbrev pub with_plan : Vehicle → List Ride → List Stop → Vehicle
with_plan v rides stops = record v { rides = record { items = rides }; stops = record { items = stops } }

-- the vehicle with the ride last among its rides and its stops at the places i and j, the legs those of the road;
-- absent where a leg is
abbrev pub inserted : RoadMap → Vehicle → Ride → ℕ → ℕ → Option Vehicle
inserted map v ride i j = option_map (with_plan v (v.rides.items ++ ride ∷ [])) (routed map v.at (stops_with ride i j v.stops.items))

-- the stops that are not of this ride
abbrev pub stops_without : ℕ → List Stop → List Stop
stops_without id stops = filter (λ (stop : Stop). not (stop.ride == id)) stops

-- the rides but this one
abbrev pub rides_without : ℕ → List Ride → List Ride
rides_without id rides = filter (λ (ride : Ride). not (ride.id == id)) rides

-- the vehicle with its legs those of the road
abbrev pub rerouted : RoadMap → Vehicle → Vehicle
rerouted map v = with_plan v v.rides.items (unwrap_or (routed map v.at v.stops.items) v.stops.items)

-- the vehicle without a ride and its stops, the legs those of the road
abbrev pub without_ride : RoadMap → Vehicle → ℕ → Vehicle
without_ride map v id = rerouted map (with_plan v (rides_without id v.rides.items) (stops_without id v.stops.items))
