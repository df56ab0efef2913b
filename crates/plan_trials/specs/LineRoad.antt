-- Trials on a road of four nodes in a line, a minute between neighbours: vehicles with other rides and stops, and a test of
-- whether one is lawful.
use Rattle.std.specs.Prelude.{ℕ, ◌+◌, ◌-◌, ◌*◌, ◌==◌, ◌&&◌, not, Bool, true, false, nat_le, List, [], ◌∷◌, map, Option, Some, None}
use Rattle.std.specs.List.{list_all}
use Rattle.ride_model.specs.declared.vehicle.Kind.{Kind}
use Rattle.ride_model.specs.declared.vehicle.Ride.{Ride}
use Rattle.ride_model.specs.declared.vehicle.Stop.{Stop}
use Rattle.ride_model.specs.declared.vehicle.Vehicle.{Vehicle}
use Rattle.ride_model.specs.Loads.{loads_fit}
use Rattle.ride_model.specs.Vehicle.{visits_due, visit_of, stops_of, ride_ids}
use Rattle.stop_plans.specs.inner.First.{is_kind}

-- the seconds between two nodes
abbrev pub seconds_between : ℕ → ℕ → ℕ
seconds_between x y = 60 * ((x - y) + (y - x))

-- a vehicle on duty with these rides and stops
abbrev pub vehicle_with : ℕ → ℕ → ℕ → ℕ → List Ride → List Stop → Vehicle
vehicle_with at ready seats chairs rides stops = record {
  id = 1;
  seats = seats;
  chairs = chairs;
  at = at;
  ready = ready;
  duty = true;
  version = 0;
  rides = record { items = rides };
  stops = record { items = stops };
}

-- whether a number is that of a node
abbrev pub is_node : ℕ → Bool
is_node x = nat_le 1 x && nat_le x 4

-- whether a ride is in its ranges
abbrev pub is_ride : Ride → Bool
is_ride ride =
    is_node ride.from && is_node ride.to && not (ride.from == ride.to) && nat_le ride.seats 8 && nat_le ride.chairs 4
    && nat_le 1 (ride.seats + ride.chairs) && nat_le ride.latest 1000000000 && nat_le 1 ride.longest && nat_le ride.longest 1000000

abbrev pub picked_by : ℕ → Option ℕ → Bool
picked_by ready None = true
picked_by ready (Some picked) = nat_le picked ready

-- whether an id is none of these, and whether none stands twice
abbrev pub is_new : ℕ → List ℕ → Bool
is_new id [] = true
is_new id (other ∷ ids) = not (id == other) && is_new id ids

abbrev pub all_new : List ℕ → Bool
all_new [] = true
all_new (id ∷ ids) = is_new id ids && all_new ids

-- whether two lists of visits are one
abbrev pub same_visits : List (Kind × ℕ) → List (Kind × ℕ) → Bool
same_visits [] [] = true
same_visits (a ∷ as') (b ∷ bs) = is_kind a.0 b.0 && a.1 == b.1 && same_visits as' bs
same_visits _ _ = false

-- whether each leg is the time from the node before
abbrev pub has_legs : ℕ → List Stop → Bool
has_legs at [] = true
has_legs at (stop ∷ stops) = is_node stop.node && stop.leg == seconds_between at stop.node && has_legs stop.node stops

-- whether a vehicle's record is in order, its loads aside
abbrev pub is_routed : Vehicle → Bool
is_routed v =
    nat_le 1 v.seats && nat_le v.seats 16 && nat_le v.chairs 4 && is_node v.at && nat_le v.ready 1000003600
    && list_all is_ride v.rides.items && list_all (λ (ride : Ride). picked_by v.ready ride.picked) v.rides.items
    && all_new (ride_ids v.rides.items)
    && list_all (λ (ride : Ride). same_visits (map visit_of (stops_of ride.id v.stops.items)) (visits_due ride ride.picked)) v.rides.items
    && list_all (λ (stop : Stop). not (is_new stop.ride (ride_ids v.rides.items))) v.stops.items
    && has_legs v.at v.stops.items

-- whether a vehicle is lawful
abbrev pub is_lawful : Vehicle → Bool
is_lawful v = is_routed v && loads_fit v
