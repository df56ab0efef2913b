-- The roads of a city: a grid in which neighbours are joined in both directions.
use Rattle.std.specs.Prelude.{ℕ, ◌+◌, ◌*◌, nat_lt, if◌then◌else◌, List, [], ◌∷◌, ◌++◌}
use Rattle.std.specs.List.{flat_map, range_with_len, enumerate_from}
use Rattle.ride_model.specs.declared.network.RoadArc.{RoadArc}
use Rattle.ride_model.specs.Road.{RoadMap}
use Rattle.city_maker.specs.declared.plan.CityPlan.{CityPlan}
use Rattle.city_maker.specs.Draws.{draw_at}
use Rattle.city_maker.specs.Plan.{nodes_of}

-- the node of a row and a column, both counted from 0
abbrev pub node_at : ℕ → ℕ → ℕ → ℕ
node_at side row column = row * side + column + 1

-- a node first with its right neighbour and then with its lower one, where there is one
unfoldable pub pairs_at : ℕ → ℕ → ℕ → List (ℕ × ℕ)
pairs_at side row column = let node : ℕ → ℕ → ℕ = node_at side in
    (if nat_lt (column + 1) side then (node row column, node row (column + 1)) ∷ [] else [])
    ++ (if nat_lt (row + 1) side then (node row column, node (row + 1) column) ∷ [] else [])

-- all pairs of neighbours, for each node in rising order
abbrev pub neighbour_pairs : ℕ → List (ℕ × ℕ)
neighbour_pairs side = flat_map (λ row. flat_map (pairs_at side row) (range_with_len 0 side)) (range_with_len 0 side)

-- the arcs there and back between the two nodes of a pair, of one drawn weight, where so many pairs come before it
unfoldable pub arcs_between : ℕ → ℕ × (ℕ × ℕ) → List RoadArc
arcs_between seed (before, pair) = let seconds = 30 + draw_at seed before 91 in record { tail = pair.0; head = pair.1; seconds = seconds }
    ∷ record { tail = pair.1; head = pair.0; seconds = seconds } ∷ []

-- the arcs of pairs of neighbours, one draw a pair
unfoldable pub arcs_of : ℕ → List (ℕ × ℕ) → List RoadArc
arcs_of seed pairs = flat_map (arcs_between seed) (enumerate_from 0 pairs)

-- the road network of a city
abbrev pub network_of : CityPlan → RoadMap
network_of plan = record { nodes = nodes_of plan; arcs = arcs_of plan.seed (neighbour_pairs plan.side) }
