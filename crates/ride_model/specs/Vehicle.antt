-- Rides, vehicles and what makes a vehicle lawful.
use Rattle.std.specs.Prelude.{◌≡◌, ◌≢◌, ℕ, ◌+◌, ◌≤◌, ◌==◌, ⊤, List, [], ◌∷◌, map, filter, All, Contains, Option, Some, None, IfSome, IsTrue, nat_eq}
use Rattle.std.specs.List.{IsDistinct}
use Rattle.ride_model.specs.declared.vehicle.Kind.{Kind}
use Rattle.ride_model.specs.declared.vehicle.Kind.TheVariants.{Pickup, Dropoff}
use Rattle.ride_model.specs.declared.vehicle.Ride.{Ride}
use Rattle.ride_model.specs.declared.vehicle.Stop.{Stop}
use Rattle.ride_model.specs.declared.vehicle.Vehicle.{Vehicle}
use Rattle.ride_model.specs.Road.{RoadMap, IsNode, travel}
use Rattle.ride_model.specs.Loads.{loads_fit}
use Rattle.ride_model.specs.declared.limits.TheConstants.{LATEST_READY, LATEST_TIME, LONGEST_RIDE, MOST_CHAIRS, MOST_SEATS, MOST_VEHICLE_CHAIRS, MOST_VEHICLE_SEATS}

-- a ride joins two different nodes, has a load and has limits in their ranges
pub record IsRide (map : RoadMap) (ride : Ride) : Type 0 where
  pub from_node : IsNode map ride.from
  pub to_node : IsNode map ride.to
  pub nodes_differ : ride.from ≢ ride.to
  pub seats_limit : ride.seats ≤ MOST_SEATS
  pub chairs_limit : ride.chairs ≤ MOST_CHAIRS
  pub some_load : 1 ≤ ride.seats + ride.chairs
  pub latest_limit : ride.latest ≤ LATEST_TIME
  pub some_seconds : 1 ≤ ride.longest
  pub longest_limit : ride.longest ≤ LONGEST_RIDE

-- the visits that a ride still needs, in order, by whether its rider is aboard
abbrev pub visits_due : Ride → Option ℕ → List (Kind × ℕ)
visits_due ride None = (Pickup, ride.from) ∷ (Dropoff, ride.to) ∷ []
visits_due ride (Some _) = (Dropoff, ride.to) ∷ []

-- what happens at a stop, and where
abbrev pub visit_of : Stop → Kind × ℕ
visit_of stop = (stop.kind, stop.node)

-- the stops of a ride
abbrev pub stops_of : ℕ → List Stop → List Stop
stops_of id stops = filter (λ (stop : Stop). stop.ride == id) stops

-- the ids of rides
abbrev pub ride_ids : List Ride → List ℕ
ride_ids rides = map (λ (ride : Ride). ride.id) rides

-- the stops are exactly those that the rides need, each once
pub record IsPlanFor (rides : List Ride) (stops : List Stop) : Type 0 where
  pub ids_differ : IsDistinct nat_eq (ride_ids rides)
  pub each_ride : All (λ (ride : Ride). map visit_of (stops_of ride.id stops) ≡ visits_due ride ride.picked) rides
  pub each_stop : All (λ (stop : Stop). Contains (ride_ids rides) stop.ride) stops

-- each stop's leg is the travel time from the stop before it, the first one's from the node at
abbrev pub HasLegs : RoadMap → ℕ → List Stop → Type 0
HasLegs map at [] = ⊤
HasLegs map at (stop ∷ stops) = (travel map at stop.node ≡ Some stop.leg) × HasLegs map stop.node stops

-- a vehicle whose record is in order, its loads aside
pub record IsRouted (map : RoadMap) (v : Vehicle) : Type 0 where
  pub some_seat : 1 ≤ v.seats
  pub seats_limit : v.seats ≤ MOST_VEHICLE_SEATS
  pub chairs_limit : v.chairs ≤ MOST_VEHICLE_CHAIRS
  pub at_node : IsNode map v.at
  pub ready_limit : v.ready ≤ LATEST_READY
  pub rides_fit : All (IsRide map) v.rides.items
  pub picked_before : All (λ (ride : Ride). IfSome ride.picked (λ picked. picked ≤ v.ready)) v.rides.items
  pub planned : IsPlanFor v.rides.items v.stops.items
  pub legs : HasLegs map v.at v.stops.items

-- a lawful vehicle: its record is in order, and what is aboard fits at the start and after each stop
pub record IsLawful (map : RoadMap) (v : Vehicle) : Type 0 where
  pub routed : IsRouted map v
  pub loads : IsTrue (loads_fit v)
