-- The example vehicles are lawful.
use Rattle.std.proofs.Common.{◌≡◌, ℕ, ◌≤◌, refl, arith}
use Rattle.std.specs.Prelude.{IfSome, Some, None, Contains, map}
use Rattle.std.specs.List.{IsDistinct}
use Rattle.std.proofs.lemmas.List.Elements.{All-from_recursion}
use Rattle.ride_model.specs.declared.vehicle.Ride.{Ride}
use Rattle.ride_model.specs.declared.vehicle.Stop.{Stop}
use Rattle.ride_model.specs.declared.vehicle.Vehicle.{Vehicle}
use Rattle.ride_model.specs.Road.{travel, travel_within}
use Rattle.ride_model.specs.Vehicle.{IsRide, IsLawful, visit_of, visits_due, stops_of, ride_ids}
use Rattle.plan_trials.specs.SmallPlans.{four_nodes, ride_of}
use Rattle.plan_trials.specs.OneRide.{on_the_way, with_rider}

pub on_the_way_is_lawful : (at ready leg latest longest : ℕ) → 1 ≤ at → at ≤ 4 → ready ≤ 1000003600 → travel four_nodes at 2 ≡ Some leg
    → latest ≤ 1000000000 → 1 ≤ longest → longest ≤ 1000000 → IsLawful four_nodes (on_the_way at ready leg latest longest)
unfolding IsDistinct travel travel_within
on_the_way_is_lawful at ready leg latest longest first last ends there latest_fits some longest_fits = record {
  routed = record {
    some_seat = omega arith;
    seats_limit = omega arith;
    chairs_limit = omega arith;
    at_node = (first, last);
    ready_limit = ends;
    rides_fit = All-from_recursion (IsRide four_nodes) v.rides.items (fits, tt);
    picked_before = All-from_recursion (λ (ride : Ride). IfSome ride.picked (λ picked. picked ≤ ready)) v.rides.items (tt, tt);
    planned = record {
      ids_differ = (tt, tt);
      each_ride = All-from_recursion (λ (ride : Ride). map visit_of (stops_of ride.id v.stops.items) ≡ visits_due ride ride.picked) v.rides.items (refl, tt);
      each_stop = All-from_recursion (λ (stop : Stop). Contains (ride_ids v.rides.items) stop.ride) v.stops.items ((0, omega arith, refl), ((0, omega arith, refl), tt));
    };
    legs = (there, (refl, tt));
  };
  loads = refl;
}
  where
    v : Vehicle
    v = on_the_way at ready leg latest longest

    fits : IsRide four_nodes (record (ride_of 7 2 4 None) { latest = latest; longest = longest })
    fits = record {
      from_node = (omega arith, omega arith);
      to_node = (omega arith, omega arith);
      nodes_differ = λ same. omega (arith, same);
      seats_limit = omega arith;
      chairs_limit = omega arith;
      some_load = omega arith;
      latest_limit = latest_fits;
      some_seconds = some;
      longest_limit = longest_fits;
    }

pub from_node_1 : travel four_nodes 1 2 ≡ Some 60
unfolding travel travel_within
from_node_1 = refl

pub from_node_2 : travel four_nodes 2 2 ≡ Some 0
unfolding travel travel_within
from_node_2 = refl

pub with_rider_is_lawful : (ready longest : ℕ) → 60 ≤ ready → ready ≤ 1000003600 → 1 ≤ longest → longest ≤ 1000000
    → IsLawful four_nodes (with_rider ready longest)
unfolding IsDistinct travel travel_within
with_rider_is_lawful ready longest later ends some longest_fits = record {
  routed = record {
    some_seat = omega arith;
    seats_limit = omega arith;
    chairs_limit = omega arith;
    at_node = (omega arith, omega arith);
    ready_limit = ends;
    rides_fit = All-from_recursion (IsRide four_nodes) v.rides.items (fits, tt);
    picked_before = All-from_recursion (λ (ride : Ride). IfSome ride.picked (λ picked. picked ≤ ready)) v.rides.items (later, tt);
    planned = record {
      ids_differ = (tt, tt);
      each_ride = All-from_recursion (λ (ride : Ride). map visit_of (stops_of ride.id v.stops.items) ≡ visits_due ride ride.picked) v.rides.items (refl, tt);
      each_stop = All-from_recursion (λ (stop : Stop). Contains (ride_ids v.rides.items) stop.ride) v.stops.items ((0, omega arith, refl), tt);
    };
    legs = (refl, tt);
  };
  loads = refl;
}
  where
    v : Vehicle
    v = with_rider ready longest

    fits : IsRide four_nodes (record (ride_of 7 2 4 (Some 60)) { longest = longest })
    fits = record {
      from_node = (omega arith, omega arith);
      to_node = (omega arith, omega arith);
      nodes_differ = λ same. omega (arith, same);
      seats_limit = omega arith;
      chairs_limit = omega arith;
      some_load = omega arith;
      latest_limit = omega arith;
      some_seconds = some;
      longest_limit = longest_fits;
    }
