use Rattle.stop_plans.proofs.Common.{◌≡◌, ◌++◌, length, drop, map, is_some, Ride, load_aboard, loads_behind}
use Rattle.stop_plans.proofs.stop_loads.loads_along.Given as goal

-- the loads so far and those after the stops that are left are all, and the load is that of those who are aboard
abbrev pub invariant-loop-stop : goal.invariant-loop-stop
invariant-loop-stop l = record {
  so_far : l.loads.items ++ loads_behind l.rides l.aboard.items (drop l.stop-index l.stops)
      ≡ loads_behind l.rides (map (λ (ride : Ride). is_some ride.picked) l.rides) l.stops;
  one_each : length l.aboard.items ≡ length l.rides;
  load : l.load ≡ load_aboard l.rides l.aboard.items;
  many : length l.loads.items ≡ l.stop-index;
}
