-- The state of a label-setting search (Dijkstra 1959).
use Rattle.std.specs.Prelude.{◌≡◌, ◌≢◌, ℕ, ◌+◌, ◌<◌, ◌≤◌, ◌⊎◌, List, length, slice_get, slice_index_or, Contains, Option, Some, None, count_by, is_some}
use Rattle.ride_model.specs.declared.network.RoadArc.{RoadArc}
use Rattle.ride_model.specs.Road.{RoadMap, IsRoadMap}
use Rattle.ride_model.specs.inner.Road.{IsWalk, IsLeastWeight, weight_of}
use Rattle.radix_queue.specs.inner.Queue.{Queue, key_of, IsAboveFloor}
use Rattle.road_times.specs.declared.adjacency.Adjacency.{Adjacency}
use Rattle.road_times.specs.declared.adjacency.Neighbor.{Neighbor}
use Rattle.road_times.specs.declared.search.Search.{Search}
use Rattle.road_times.specs.inner.Adjacency.{IsAdjacency}

-- the label of a node that is settled
abbrev pub label_of : List (Option ℕ) → ℕ → Option ℕ
label_of labels node = slice_index_or labels node None

-- a node is settled or queued, by a number that is not above the limit
abbrev pub IsReached : List (Option ℕ) → Queue → ℕ → ℕ → Type 0
IsReached labels queue node limit =
    ((label : ℕ) × (label_of labels node ≡ Some label) × (label ≤ limit))
    ⊎ ((key : ℕ) × (key_of queue node ≡ Some key) × (key ≤ limit))

-- A search from a source: labels are least weights, a key is the weight of a walk, labels are not above the floor and
-- keys not below it, and each arc from a settled node leads to one that is reached. The arcs of one node may still have
-- to be relaxed; 0 is no node.
pub record IsSearch (roads : RoadMap) (source unrelaxed : ℕ) (labels : List (Option ℕ)) (queue : Queue) : Type 0 where
  pub sized : length labels ≡ roads.nodes + 1
  pub rooms : length queue.keys ≡ length labels
  pub settled : (node label : ℕ) → label_of labels node ≡ Some label → IsLeastWeight roads source node label
  pub queued : (node key : ℕ) → key_of queue node ≡ Some key
      → (walk : List RoadArc) × IsWalk roads source node walk × (weight_of walk ≡ key)
  pub apart : (node key : ℕ) → key_of queue node ≡ Some key → label_of labels node ≡ None
  pub below : (node label : ℕ) → label_of labels node ≡ Some label → label ≤ queue.floor
  pub above : IsAboveFloor queue
  pub begun : IsReached labels queue source 0
  pub onward : (node label : ℕ) (arc : RoadArc) → node ≢ unrelaxed → label_of labels node ≡ Some label
      → Contains roads.arcs arc → arc.tail ≡ node → IsReached labels queue arc.head (label + arc.seconds)

-- a key that the arcs of a node give to a neighbor that is not settled
pub record IsOffered (labels : List (Option ℕ)) (neighbors : List Neighbor) (count label node key : ℕ) : Type 0 where
  pub place : ℕ
  pub neighbor : Neighbor
  pub before : place < count
  pub here : slice_get neighbors place ≡ Some neighbor
  pub node_is : neighbor.node ≡ node
  pub key_is : label + neighbor.seconds ≡ key
  pub unsettled : label_of labels node ≡ None

-- the queue after the first arcs of a node of this label were relaxed
pub record IsRelaxed (labels : List (Option ℕ)) (neighbors : List Neighbor) (count label : ℕ) (old new : Queue) : Type 0 where
  pub reached : (place : ℕ) (neighbor : Neighbor) → place < count → slice_get neighbors place ≡ Some neighbor
      → IsReached labels new neighbor.node (label + neighbor.seconds)
  pub lowered : (node key : ℕ) → key_of old node ≡ Some key → (less : ℕ) × (key_of new node ≡ Some less) × (less ≤ key)
  pub given : (node key : ℕ) → key_of new node ≡ Some key
      → (key_of old node ≡ Some key) ⊎ IsOffered labels neighbors count label node key
  pub floor : new.floor ≡ old.floor
  pub rooms : length new.keys ≡ length old.keys
  pub above : IsAboveFloor new

-- the nodes that are settled stand in a list, so that they can be found again
pub record IsListed (labels : List (Option ℕ)) (settled : List ℕ) (count : ℕ) : Type 0 where
  pub sized : length settled ≡ length labels
  pub counted : count ≡ count_by is_some labels
  pub inside : (place : ℕ) → place < count → slice_index_or settled place 0 < length labels
  pub listed : (node label : ℕ) → label_of labels node ≡ Some label
      → (place : ℕ) × (place < count) × (slice_index_or settled place 0 ≡ node)

-- a search whose lists are in order
pub record IsReady (search : Search) : Type 0 where
  pub rooms : length search.queue.keys ≡ length search.labels.items
  pub listed : IsListed search.labels.items search.settled.items search.count

-- a search over the map of an adjacency
pub record IsOver (roads : RoadMap) (adjacency : Adjacency) (source : ℕ) (search : Search) : Type 0 where
  pub fits : IsRoadMap roads
  pub packed : IsAdjacency roads adjacency
  pub state : IsSearch roads source 0 search.labels.items search.queue
