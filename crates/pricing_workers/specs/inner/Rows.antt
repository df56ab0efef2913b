-- A request's rows of times.
use Rattle.std.specs.Prelude.{◌≡◌, ℕ, ◌+◌, ◌<◌, ◌≤◌, List, length, map, slice_index_or, None}
use Rattle.std.specs.List.{range_with_len}
use Rattle.ride_model.specs.declared.vehicle.Ride.{Ride}
use Rattle.ride_model.specs.declared.vehicle.Vehicle.{Vehicle}
use Rattle.ride_model.specs.Road.{RoadMap, travel}
use Rattle.insertion.specs.declared.near.NearStop.{NearStop}
use Rattle.insertion.specs.inner.Asked.{near_stop}
use Rattle.pricing_workers.specs.declared.times.Times.{Times}

-- each row has room for just so many nodes
pub record HasRows (nodes : ℕ) (times : Times) : Type 0 where
  pub to_from : length times.to_from.items ≡ nodes
  pub from_here : length times.from_here.items ≡ nodes
  pub to_to : length times.to_to.items ≡ nodes
  pub to_here : length times.to_here.items ≡ nodes

-- each row has at least so many nodes
pub record IsWide (nodes : ℕ) (times : Times) : Type 0 where
  pub to_from : nodes ≤ length times.to_from.items
  pub from_here : nodes ≤ length times.from_here.items
  pub to_to : nodes ≤ length times.to_to.items
  pub to_here : nodes ≤ length times.to_here.items

-- over a map, the rows hold the travel times between a ride's nodes and the wanted ones
pub record HoldsRows (roads : RoadMap) (ride : Ride) (wanted : List ℕ) (times : Times) : Type 0 where
  pub to_from : times.to_from.items ≡ map (λ node. travel roads node ride.from) wanted
  pub from_here : times.from_here.items ≡ map (λ node. travel roads ride.from node) wanted
  pub to_to : times.to_to.items ≡ map (λ node. travel roads node ride.to) wanted
  pub to_here : times.to_here.items ≡ map (λ node. travel roads ride.to node) wanted
  pub direct : times.direct ≡ travel roads ride.from ride.to

-- for each of these rides, in order, one of the times holds its rows
pub record HoldTimes (roads : RoadMap) (rides : List Ride) (wanted : List ℕ) (times : List Times) : Type 0 where
  pub count : length times ≡ length rides
  pub rows : (r : ℕ) (ride : Ride) (own : Times) → r < length rides
      → HoldsRows roads (slice_index_or rides r ride) wanted (slice_index_or times r own)

-- the times in the rows at a place
abbrev pub near_at : Times → ℕ → NearStop
near_at times node = record {
  to_from = slice_index_or times.to_from.items node None;
  from_here = slice_index_or times.from_here.items node None;
  to_to = slice_index_or times.to_to.items node None;
  to_here = slice_index_or times.to_here.items node None;
}

-- the travel times between a node and a ride's two nodes
abbrev pub near_node : RoadMap → Ride → ℕ → NearStop
near_node roads ride node = record {
  to_from = travel roads node ride.from;
  from_here = travel roads ride.from node;
  to_to = travel roads node ride.to;
  to_here = travel roads ride.to node;
}

-- from a place on, the rows hold the times between a ride's nodes and a vehicle's
pub record HoldsAt (roads : RoadMap) (ride : Ride) (first : ℕ) (v : Vehicle) (times : Times) : Type 0 where
  pub at : near_at times first ≡ near_node roads ride v.at
  pub stops : map (λ node. near_at times (first + 1 + node)) (range_with_len 0 (length v.stops.items)) ≡ map (near_stop roads ride) v.stops.items
  pub direct : times.direct ≡ travel roads ride.from ride.to
