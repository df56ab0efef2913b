-- The example vehicles are lawful.
use Rattle.std.proofs.Common.{◌≡◌, ◌≢◌, ℕ, zero, suc, ◌≤◌, [], ◌∷◌, refl, arith}
use Rattle.std.specs.Prelude.{IfSome, Option, Some, None, Contains, map}
use Rattle.std.specs.List.{IsDistinct}
use Rattle.std.proofs.lemmas.List.Elements.{All-from_recursion}
use Rattle.ride_model.specs.declared.vehicle.Ride.{Ride}
use Rattle.ride_model.specs.declared.vehicle.Stop.{Stop}
use Rattle.ride_model.specs.declared.vehicle.Vehicle.{Vehicle}
use Rattle.ride_model.specs.Road.{IsRoadMap, IsArc, travel, travel_within}
use Rattle.ride_model.specs.Vehicle.{IsRide, IsLawful, visit_of, visits_due, stops_of, ride_ids}
use Rattle.ride_model.specs.inner.Vehicle.{IsLawfulSomewhere, IsFresh}
use Rattle.stop_plans.specs.inner.Change.{InsertsInto, RemovesFrom}
use Rattle.plan_trials.specs.SmallPlans.{arc, four_nodes, ride_of, pickup_at, dropoff_at, promised, pooled, arrived, carrying, pooling}

fits : (tail head : ℕ) → 1 ≤ tail → tail ≤ 4 → 1 ≤ head → head ≤ 4 → IsArc four_nodes (arc tail head)
fits tail head a b c d = ((a, b), (c, d), omega arith)

pub map_fits : IsRoadMap four_nodes
map_fits = record {
  some_node = omega arith;
  nodes_limit = omega arith;
  arcs_limit = omega arith;
  arcs_fit = All-from_recursion (IsArc four_nodes) four_nodes.arcs
      (fits 1 2 (omega arith) (omega arith) (omega arith) (omega arith), (fits 2 1 (omega arith) (omega arith) (omega arith) (omega arith), (fits 2 3 (omega arith) (omega arith) (omega arith) (omega arith), (fits 3 2 (omega arith) (omega arith) (omega arith) (omega arith), (fits 3 4 (omega arith) (omega arith) (omega arith) (omega arith), (fits 4 3 (omega arith) (omega arith) (omega arith) (omega arith), tt))))));
}

pub ride_fits : (id from to : ℕ) (picked : Option ℕ) → 1 ≤ from → from ≤ 4 → 1 ≤ to → to ≤ 4 → from ≢ to → IsRide four_nodes (ride_of id from to picked)
ride_fits id from to picked a b c d e = record {
  from_node = (a, b);
  to_node = (c, d);
  nodes_differ = e;
  seats_limit = omega arith;
  chairs_limit = omega arith;
  some_load = omega arith;
  latest_limit = omega arith;
  some_seconds = omega arith;
  longest_limit = omega arith;
}

ride_7 : (picked : Option ℕ) → IsRide four_nodes (ride_of 7 2 4 picked)
ride_7 picked = ride_fits 7 2 4 picked (omega arith) (omega arith) (omega arith) (omega arith) (λ same. omega (arith, same))

pub ride_9 : IsRide four_nodes (ride_of 9 3 4 None)
ride_9 = ride_fits 9 3 4 None (omega arith) (omega arith) (omega arith) (omega arith) (λ same. omega (arith, same))

pub promised_is_lawful : IsLawful four_nodes promised
unfolding IsDistinct travel travel_within
promised_is_lawful = record {
  routed = record {
    some_seat = omega arith;
    seats_limit = omega arith;
    chairs_limit = omega arith;
    at_node = (omega arith, omega arith);
    ready_limit = omega arith;
    rides_fit = All-from_recursion (IsRide four_nodes) promised.rides.items (ride_7 None, tt);
    picked_before = All-from_recursion (λ (ride : Ride). IfSome ride.picked (λ picked. picked ≤ 0)) promised.rides.items (tt, tt);
    planned = record {
      ids_differ = (tt, tt);
      each_ride = All-from_recursion (λ (ride : Ride). map visit_of (stops_of ride.id promised.stops.items) ≡ visits_due ride ride.picked) promised.rides.items (refl, tt);
      each_stop = All-from_recursion (λ (stop : Stop). Contains (ride_ids promised.rides.items) stop.ride) promised.stops.items ((0, omega arith, refl), ((0, omega arith, refl), tt));
    };
    legs = (refl, (refl, tt));
  };
  loads = refl;
}

pub pooled_is_lawful : IsLawful four_nodes pooled
unfolding IsDistinct travel travel_within
pooled_is_lawful = record {
  routed = record {
    some_seat = omega arith;
    seats_limit = omega arith;
    chairs_limit = omega arith;
    at_node = (omega arith, omega arith);
    ready_limit = omega arith;
    rides_fit = All-from_recursion (IsRide four_nodes) pooled.rides.items (ride_7 None, (ride_9, tt));
    picked_before = All-from_recursion (λ (ride : Ride). IfSome ride.picked (λ picked. picked ≤ 0)) pooled.rides.items (tt, (tt, tt));
    planned = record {
      ids_differ = ((refl, tt), (tt, tt));
      each_ride = All-from_recursion (λ (ride : Ride). map visit_of (stops_of ride.id pooled.stops.items) ≡ visits_due ride ride.picked) pooled.rides.items (refl, (refl, tt));
      each_stop = All-from_recursion (λ (stop : Stop). Contains (ride_ids pooled.rides.items) stop.ride) pooled.stops.items ((0, omega arith, refl), ((1, omega arith, refl), ((1, omega arith, refl), ((0, omega arith, refl), tt))));
    };
    legs = (refl, (refl, (refl, (refl, tt))));
  };
  loads = refl;
}

pub arrived_is_lawful : IsLawful four_nodes arrived
unfolding IsDistinct travel travel_within
arrived_is_lawful = record {
  routed = record {
    some_seat = omega arith;
    seats_limit = omega arith;
    chairs_limit = omega arith;
    at_node = (omega arith, omega arith);
    ready_limit = omega arith;
    rides_fit = All-from_recursion (IsRide four_nodes) arrived.rides.items (ride_7 None, tt);
    picked_before = All-from_recursion (λ (ride : Ride). IfSome ride.picked (λ picked. picked ≤ 60)) arrived.rides.items (tt, tt);
    planned = record {
      ids_differ = (tt, tt);
      each_ride = All-from_recursion (λ (ride : Ride). map visit_of (stops_of ride.id arrived.stops.items) ≡ visits_due ride ride.picked) arrived.rides.items (refl, tt);
      each_stop = All-from_recursion (λ (stop : Stop). Contains (ride_ids arrived.rides.items) stop.ride) arrived.stops.items ((0, omega arith, refl), ((0, omega arith, refl), tt));
    };
    legs = (refl, (refl, tt));
  };
  loads = refl;
}

pub carrying_is_lawful : IsLawful four_nodes carrying
unfolding IsDistinct travel travel_within
carrying_is_lawful = record {
  routed = record {
    some_seat = omega arith;
    seats_limit = omega arith;
    chairs_limit = omega arith;
    at_node = (omega arith, omega arith);
    ready_limit = omega arith;
    rides_fit = All-from_recursion (IsRide four_nodes) carrying.rides.items (ride_7 (Some 60), tt);
    picked_before = All-from_recursion (λ (ride : Ride). IfSome ride.picked (λ picked. picked ≤ 210)) carrying.rides.items (omega arith, tt);
    planned = record {
      ids_differ = (tt, tt);
      each_ride = All-from_recursion (λ (ride : Ride). map visit_of (stops_of ride.id carrying.stops.items) ≡ visits_due ride ride.picked) carrying.rides.items (refl, tt);
      each_stop = All-from_recursion (λ (stop : Stop). Contains (ride_ids carrying.rides.items) stop.ride) carrying.stops.items ((0, omega arith, refl), tt);
    };
    legs = (refl, tt);
  };
  loads = refl;
}

pub pooling_inserts : InsertsInto four_nodes promised (ride_of 9 3 4 None) pooling (record pooled { version = 1 })
unfolding travel travel_within
pooling_inserts = record {
  map_fits = map_fits;
  lawful = promised_is_lawful;
  ride_fits = ride_9;
  waits = refl;
  fresh = not_there;
  stops_room = omega arith;
  rides_room = omega arith;
  in_order = omega arith;
  in_range = omega arith;
  inserted_is = refl;
  joins_are = refl;
}
  where
    not_there : IsFresh promised.rides.items 9
    not_there (zero, within, is) = absurd (omega (arith, is))
    not_there (suc k, within, is) = absurd (omega (arith, within))

pub pooling_is_undone : RemovesFrom four_nodes pooled 9 120 120
unfolding travel travel_within
pooling_is_undone = record {
  map_fits = map_fits;
  lawful = pooled_is_lawful;
  before = pickup_at 7 2 60 ∷ [];
  pickup = pickup_at 9 3 60;
  between = [];
  dropoff = dropoff_at 9 4 60;
  after = dropoff_at 7 4 0 ∷ [];
  stops_are = refl;
  pickup_is = (refl, refl);
  dropoff_is = (refl, refl);
  first_is = refl;
  second_is = refl;
}
