-- The map that roads mean.
use Rattle.std.specs.Prelude.{ℕ, List}
use Rattle.ride_model.specs.Road.{RoadMap, IsRoadMap}
use Rattle.road_times.specs.declared.adjacency.Adjacency.{Adjacency}
use Rattle.road_times.specs.declared.side.Side.TheVariants.{Out, Back}
use Rattle.road_times.specs.inner.Turned.{turned_map}
use Rattle.road_times.specs.inner.Adjacency.{IsAdjacency}
use Rattle.road_times.specs.inner.Sorting.{stored_arcs}

-- the map of so many nodes whose arcs leave these tails, in this order
abbrev pub stored_map : ℕ → List ℕ → Adjacency → RoadMap
stored_map nodes tails forward = record { nodes = nodes; arcs = stored_arcs tails forward.starts.items forward.neighbors.items }

-- a map with its adjacency in both directions
pub record AreRoads (roads : RoadMap) (out back : Adjacency) : Type 0 where
  pub fits : IsRoadMap roads
  pub forward : IsAdjacency (turned_map Out roads) out
  pub backward : IsAdjacency (turned_map Back roads) back
