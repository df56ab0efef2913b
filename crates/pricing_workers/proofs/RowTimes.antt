-- The times in a request's rows at a vehicle's nodes.
use Rattle.pricing_workers.proofs.Common.{◌≡◌, ℕ, suc, ◌+◌, ◌<◌, ◌≤◌, List, length, get_or, refl, sym, ap, ◌∙◌, arith, Option, None, map, take, get_or-map, length-map, get_or-flat_map, length-flat_map-take, fill_by_all, Pickup, Ride, Stop, Vehicle, RoadMap, travel, near_stop, Times, HasRows, HoldsRows, HoldsAt, IsWide, near_at, near_node, nodes_of, all_nodes}

-- a row's time at a place is that of the node there
row-at : (f : ℕ → Option ℕ) (nodes : List ℕ) (row : List (Option ℕ)) (k : ℕ) → row ≡ map f nodes → k < length nodes
    → get_or row k None ≡ f (get_or nodes k 0)
row-at f nodes row k is low = ap (λ r. get_or r k None) is ∙ get_or-map f nodes k 0 None low

-- the times at a place are those of the node there
near-at : (roads : RoadMap) (ride : Ride) (nodes : List ℕ) (times : Times) (k : ℕ) → HoldsRows roads ride nodes times → k < length nodes
    → near_at times k ≡ near_node roads ride (get_or nodes k 0)
near-at roads ride nodes times k h low = rw (
  row-at (λ node. travel roads node ride.from) nodes times.to_from.items k h.to_from low,
  row-at (λ node. travel roads ride.from node) nodes times.from_here.items k h.from_here low,
  row-at (λ node. travel roads node ride.to) nodes times.to_to.items k h.to_to low,
  row-at (λ node. travel roads ride.to node) nodes times.to_here.items k h.to_here low,
) refl

-- the vehicle's nodes all stand in the rows
pub nodes-fit : (vehicles : List Vehicle) (c : ℕ) (v : Vehicle) → c < length vehicles
    → length (all_nodes (take c vehicles)) + 1 + length (get_or vehicles c v).stops.items ≤ length (all_nodes vehicles)
nodes-fit vehicles c v low =
    let stops = (get_or vehicles c v).stops.items in
    let count : length (nodes_of (get_or vehicles c v)) ≡ suc (length stops)
    = ap suc (length-map stops (λ (stop : Stop). stop.node)) in
    omega (arith, length-flat_map-take nodes_of vehicles c v low, count)

wide-row : (f : ℕ → Option ℕ) (nodes : List ℕ) (row : List (Option ℕ)) (most : ℕ) → row ≡ map f nodes → most ≤ length nodes
    → most ≤ length row
wide-row f nodes row most is fit = omega (arith, fit, ap length is ∙ length-map nodes f)

-- rows of all nodes are wide enough for a vehicle's
pub rows-wide : (roads : RoadMap) (ride : Ride) (nodes : List ℕ) (times : Times) (most : ℕ) → HoldsRows roads ride nodes times
    → most ≤ length nodes → IsWide most times
rows-wide roads ride nodes times most h fit = record {
  to_from = wide-row (λ node. travel roads node ride.from) nodes times.to_from.items most h.to_from fit;
  from_here = wide-row (λ node. travel roads ride.from node) nodes times.from_here.items most h.from_here fit;
  to_to = wide-row (λ node. travel roads node ride.to) nodes times.to_to.items most h.to_to fit;
  to_here = wide-row (λ node. travel roads ride.to node) nodes times.to_here.items most h.to_here fit;
}

-- rows that are filled have just the room that they had
pub rows-room : (roads : RoadMap) (ride : Ride) (nodes : List ℕ) (times : Times) → HoldsRows roads ride nodes times → HasRows (length nodes) times
rows-room roads ride nodes times h = record {
  to_from = ap length h.to_from ∙ length-map nodes (λ node. travel roads node ride.from);
  from_here = ap length h.from_here ∙ length-map nodes (λ node. travel roads ride.from node);
  to_to = ap length h.to_to ∙ length-map nodes (λ node. travel roads node ride.to);
  to_here = ap length h.to_here ∙ length-map nodes (λ node. travel roads ride.to node);
}

-- the node of a vehicle of this number
node-of : (vehicles : List Vehicle) (c j : ℕ) (v : Vehicle) → c < length vehicles → j < length (nodes_of (get_or vehicles c v))
    → get_or (all_nodes vehicles) (length (all_nodes (take c vehicles)) + j) 0 ≡ get_or (nodes_of (get_or vehicles c v)) j 0
node-of vehicles c j v low inside = get_or-flat_map nodes_of vehicles c j v 0 low inside

-- the rows hold a vehicle's times from where its nodes begin
pub holds-at : (roads : RoadMap) (ride : Ride) (vehicles : List Vehicle) (times : Times) (c : ℕ) (v : Vehicle)
    → HoldsRows roads ride (all_nodes vehicles) times → c < length vehicles
    → HoldsAt roads ride (length (all_nodes (take c vehicles))) (get_or vehicles c v) times
holds-at roads ride vehicles times c v h low =
    let vehicle = get_or vehicles c v in
    let stops = vehicle.stops.items in
    let first = length (all_nodes (take c vehicles)) in
    let fit = nodes-fit vehicles c v low in
    let count : length (nodes_of vehicle) ≡ suc (length stops) = ap suc (length-map stops (λ (stop : Stop). stop.node)) in
    let none : Stop = record { ride = 0; kind = Pickup; node = 0; leg = 0 } in
    let times-of : (j at : ℕ) → j < suc (length stops) → first + j ≡ at → near_at times at ≡ near_node roads ride (get_or (nodes_of vehicle) j 0)
    = λ j at inside is. near-at roads ride (all_nodes vehicles) times at h (omega (arith, fit, inside, is))
    ∙ ap (λ k. near_node roads ride (get_or (all_nodes vehicles) k 0)) (sym is)
    ∙ ap (near_node roads ride) (node-of vehicles c j v low (omega (arith, count, inside))) in
    record {
      at = times-of 0 first (omega arith) (omega arith);
      stops = sym (fill_by_all (λ node. near_at times (first + 1 + node)) (map (near_stop roads ride) stops) (length stops)
          (near_at times 0) (length-map stops (near_stop roads ride))
          (λ k inside. get_or-map (near_stop roads ride) stops k none (near_at times 0) inside
          ∙ ap (near_node roads ride) (sym (get_or-map (λ (stop : Stop). stop.node) stops k none 0 inside))
          ∙ sym (times-of (suc k) (first + 1 + k) (omega (arith, inside)) (omega arith))));
      direct = h.direct;
    }
