-- Arcs and shortcuts as a search meets them.
use Rattle.std.specs.Prelude.{ℕ, ◌<◌, List, Contains, length}
use Rattle.ride_model.specs.declared.network.RoadArc.{RoadArc}
use Rattle.road_times.specs.declared.side.Side.{Side}
use Rattle.road_times.specs.inner.Turned.{turned_arc}

-- an arc that a search on a side meets
abbrev pub IsLinkBy : Side → List RoadArc → RoadArc → Type 0
IsLinkBy side arcs arc = Contains arcs (turned_arc side arc)

-- each arc joins nodes that have a level
abbrev pub HaveLevels : List RoadArc → List ℕ → Type 0
HaveLevels arcs levels = (arc : RoadArc) → Contains arcs arc → (arc.tail < length levels) × (arc.head < length levels)
