use Rattle.slack_tables.proofs.Common.{◌≡◌, ◌≤◌, ◌++◌, drop, length, filter_map, Ride, trip_of}
use Rattle.slack_tables.proofs.trips.trips_of.Given as goal

-- the trips so far and those of the rides that are left are all
abbrev pub invariant-loop-ride : goal.invariant-loop-ride
invariant-loop-ride l = record {
  so_far : l.trips.items ++ filter_map (λ (ride : Ride). trip_of ride l.stops l.times) (drop l.ride-index l.rides)
      ≡ filter_map (λ (ride : Ride). trip_of ride l.stops l.times) l.rides;
  few : length l.trips.items ≤ l.ride-index;
}
