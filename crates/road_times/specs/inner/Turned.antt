-- The two directions of a search.
use Rattle.std.specs.Prelude.{ℕ, Option, map}
use Rattle.ride_model.specs.declared.network.RoadArc.{RoadArc}
use Rattle.ride_model.specs.Road.{RoadMap, travel}
use Rattle.road_times.specs.declared.side.Side.{Side}
use Rattle.road_times.specs.declared.side.Side.TheVariants.{Out, Back}

-- an arc as a search meets it: forward, or from its head to its tail
abbrev pub turned_arc : Side → RoadArc → RoadArc
turned_arc Out arc = arc
turned_arc Back arc = record { tail = arc.head; head = arc.tail; seconds = arc.seconds }

-- the map as a search meets it
abbrev pub turned_map : Side → RoadMap → RoadMap
turned_map side roads = record { nodes = roads.nodes; arcs = map (turned_arc side) roads.arcs }

-- the travel time from x to w, or from w to x
abbrev pub travel_by : Side → RoadMap → ℕ → ℕ → Option ℕ
travel_by Out roads x w = travel roads x w
travel_by Back roads x w = travel roads w x
