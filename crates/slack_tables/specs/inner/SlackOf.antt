-- The tables that a vehicle's plan has from a start.
use Rattle.std.specs.Prelude.{◌≡◌, ℕ, ◌+◌, ◌-◌, ◌≤◌, List, [], ◌∷◌, length, map, slice_index_or, All}
use Rattle.std.specs.List.{filter_map, range_with_len}
use Rattle.ride_model.specs.declared.vehicle.Load.{Load}
use Rattle.ride_model.specs.declared.vehicle.Ride.{Ride}
use Rattle.ride_model.specs.declared.vehicle.Vehicle.{Vehicle}
use Rattle.ride_model.specs.Loads.{load_after, loads_of}
use Rattle.ride_model.specs.Times.{times_of}
use Rattle.ride_model.specs.Keeps.{keeps}
use Rattle.ride_model.specs.declared.limits.TheConstants.{MOST_STOPS}
use Rattle.slack_tables.specs.declared.trips.Trip.{Trip}
use Rattle.slack_tables.specs.inner.Tables.{PlanSlack}
use Rattle.slack_tables.specs.inner.Trips.{trip_of, room_of}

-- the trips of a vehicle's rides
abbrev pub trips_of : Vehicle → List ℕ → List Trip
trips_of v times = filter_map (λ (ride : Ride). trip_of ride v.stops.items times) v.rides.items

-- for a change before each place a row, for each place from there on by how much the stops from it on may be later
abbrev pub rooms_of : List Trip → ℕ → List (List ℕ)
rooms_of trips stops =
    map (λ change. map (room_of trips change) (range_with_len change (stops + 1 - change))) (range_with_len 0 (stops + 1))

-- the tables of a vehicle that leaves at a start and stands dwell seconds at each stop
abbrev pub slack_of : Vehicle → ℕ → ℕ → PlanSlack
slack_of v start dwell = record {
  on_time = keeps v start dwell;
  times = times_of v start dwell;
  loads = load_after v.rides.items [] ∷ loads_of v;
  rooms = rooms_of (trips_of v (times_of v start dwell)) (length v.stops.items);
}

-- tables of one shape: one load more than arrivals, and a row for each load that ends at the last place; arrivals and loads are
-- of a lawful vehicle's size
pub record AreTables (slack : PlanSlack) : Type 0 where
  pub few : length slack.times ≤ MOST_STOPS
  pub one_load_more : length slack.loads ≡ length slack.times + 1
  pub one_row_more : length slack.rooms ≡ length slack.times + 1
  pub rows_end : (change : ℕ) → change ≤ length slack.times
      → length (slice_index_or slack.rooms change []) + change ≡ length slack.times + 1
  pub soon : All (λ time. time ≤ 10000000000000000) slack.times
  pub small : All (λ (load : Load). (load.seats ≤ 128) × (load.chairs ≤ 64)) slack.loads
