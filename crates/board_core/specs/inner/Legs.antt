-- Legs along a list of nodes, and rides that wait for their pickup.
use Rattle.std.specs.Prelude.{◌≡◌, ℕ, zero, suc, List, [], ◌∷◌, map, None, unwrap_or, Contains}
use Rattle.ride_model.specs.declared.vehicle.Ride.{Ride}
use Rattle.ride_model.specs.declared.vehicle.Stop.{Stop}
use Rattle.ride_model.specs.declared.vehicle.Vehicle.{Vehicle}
use Rattle.ride_model.specs.Road.{RoadMap, travel}
use Rattle.ride_model.specs.Insertion.{stops_without}

-- the nodes of a vehicle's plan without a ride: where it is, and its other stops
abbrev pub nodes_without : Vehicle → ℕ → List ℕ
nodes_without v id = v.at ∷ map (λ (stop : Stop). stop.node) (stops_without id v.stops.items)

-- the travel time from the node at a place to the next, 0 where there is none
abbrev pub leg_along : RoadMap → List ℕ → ℕ → ℕ
leg_along roads [] place = 0
leg_along roads (node ∷ []) place = 0
leg_along roads (node ∷ next ∷ nodes) zero = unwrap_or (travel roads node next) 0
leg_along roads (node ∷ next ∷ nodes) (suc place) = leg_along roads (next ∷ nodes) place

-- a ride of an id, whose rider waits to be picked up
pub record HasWaiting (v : Vehicle) (id : ℕ) : Type 0 where
  pub ride : Ride
  pub there : Contains v.rides.items ride
  pub id_is : ride.id ≡ id
  pub waits : ride.picked ≡ None
