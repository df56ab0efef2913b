-- The tables of a lawful vehicle, entry by entry.
use Rattle.slack_tables.proofs.Common.{◌≡◌, ℕ, zero, suc, ◌+◌, ◌-◌, ◌<◌, ◌≤◌, List, [], ◌∷◌, length, take, refl, sym, ◌∙◌, ap, subst, arith, slice_index, map, slice_index_or, range_with_len, length-map-range_with_len, get_or-map-range_with_len, Load, Vehicle, RoadMap, IsRoadMap, IsLawful, load_after, loads_of, fits_load, times_of, fits_throughout, leb, leb-true, true, and_parts, length-times, times-soon, Trip, room_of, load_at, room_at, trips_of, rooms_of, slack_of, AreTables}

-- a row
pub row-is : (trips : List Trip) (stops change : ℕ) → change ≤ stops
    → slice_index_or (rooms_of trips stops) change [] ≡ map (room_of trips change) (range_with_len change (stops + 1 - change))
row-is trips stops change within =
    get_or-map-range_with_len (λ c. map (room_of trips c) (range_with_len c (stops + 1 - c))) 0 (stops + 1) change change []
    (omega arith) (omega arith)

-- a room
pub room-is : (v : Vehicle) (start dwell change place : ℕ) → change ≤ place → place ≤ length v.stops.items
    → room_at (slack_of v start dwell) change place ≡ room_of (trips_of v (times_of v start dwell)) change place
room-is v start dwell change place in_order within =
    let trips = trips_of v (times_of v start dwell) in
    ap (λ row. slice_index row (place - change)) (row-is trips (length v.stops.items) change (omega (arith, in_order, within)))
    ∙ get_or-map-range_with_len (room_of trips change) change (length v.stops.items + 1 - change) (place - change) place 0
    (omega (arith, in_order, within)) (omega (arith, in_order))

-- a load
pub load-is : (v : Vehicle) (start dwell place : ℕ) → place ≤ length v.stops.items
    → load_at (slack_of v start dwell) place ≡ load_after v.rides.items (take place v.stops.items)
load-is v start dwell zero within = refl
load-is v start dwell (suc place) within =
    get_or-map-range_with_len (λ served. load_after v.rides.items (take served v.stops.items)) 1 (length v.stops.items) place
    (suc place)
    (record { seats = 0; chairs = 0 }) (omega (arith, within)) (omega arith)

-- what fits into a lawful vehicle is small
small_load : (v : Vehicle) (load : Load) → v.seats ≤ 16 → v.chairs ≤ 4 → fits_load v load ≡ true → (load.seats ≤ 128) ×
    (load.chairs ≤ 64)
small_load v load seats chairs fits =
    let (a, b) = and_parts (leb load.seats v.seats) (leb load.chairs v.chairs) fits in
    (omega (arith, seats, leb-true load.seats v.seats a), omega (arith, chairs, leb-true load.chairs v.chairs b))

-- the tables of a lawful vehicle of at most 16 stops
pub are_tables : (roads : RoadMap) (v : Vehicle) (start dwell : ℕ) → IsRoadMap roads → IsLawful roads v → start ≤ 1000003600
    → dwell ≤ 3600
    → length v.stops.items ≤ 16 → AreTables (slack_of v start dwell)
are_tables roads v start dwell fits lawful begins stands few =
    let many : length (times_of v start dwell) ≡ length v.stops.items = length-times dwell start v.stops.items in
    let stops : ℕ = length v.stops.items in
    let trips = trips_of v (times_of v start dwell) in
    let loads_many : length (loads_of v) ≡ stops = length-map-range_with_len
    (λ served. load_after v.rides.items (take served v.stops.items)) 1 stops in
    record {
      few = omega (arith, many, few);
      one_load_more = omega (arith, many, loads_many);
      one_row_more = length-map-range_with_len (λ change. map (room_of trips change) (range_with_len change (stops + 1 - change))) 0
          (stops + 1)
          ∙ ap (λ n. n + 1) (sym many);
      rows_end = λ change within.
          let row = ap length (row-is trips stops change (omega (arith, many, within)))
          ∙ length-map-range_with_len (room_of trips change) change (stops + 1 - change) in
          omega (arith, row, many, within);
      soon = times-soon v start dwell (roads, fits, lawful.routed) begins stands few;
      small = λ k d within. small k d within (omega (arith, within, loads_many));
    }
  where
    small : (k : ℕ) (d : Load) → k < suc (length (loads_of v)) → k ≤ length v.stops.items
        → ((slice_index_or (load_after v.rides.items [] ∷ loads_of v) k d).seats ≤ 128) ×
        ((slice_index_or (load_after v.rides.items [] ∷ loads_of v) k d).chairs ≤ 64)
    small zero d within few_stops = small_load v (load_after v.rides.items []) lawful.routed.seats_limit lawful.routed.chairs_limit
        (fits_throughout v lawful.loads 0 (omega arith))
    small (suc k) d within few_stops =
        subst (λ (load : Load). (load.seats ≤ 128) × (load.chairs ≤ 64))
        (sym (get_or-map-range_with_len (λ served. load_after v.rides.items (take served v.stops.items)) 1 (length v.stops.items) k
        (suc k) d (omega (arith, few_stops)) (omega arith)))
        (small_load v (load_after v.rides.items (take (suc k) v.stops.items)) lawful.routed.seats_limit lawful.routed.chairs_limit
        (fits_throughout v lawful.loads (suc k) few_stops))
