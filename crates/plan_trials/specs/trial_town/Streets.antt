-- arcs of a map of so many nodes
use Rattle.std.specs.Prelude.{ℕ, List, [], All}
use Rattle.ride_model.specs.declared.network.RoadArc.{RoadArc}
use Rattle.ride_model.specs.Road.{IsNode, IsArc}

-- the number of a node
abbrev pub IsPlace : ℕ → ℕ → Type 0
IsPlace nodes x = IsNode (record { nodes = nodes; arcs = [] }) x

abbrev pub AreStreets : ℕ → List RoadArc → Type 0
AreStreets nodes arcs = All (IsArc (record { nodes = nodes; arcs = [] })) arcs
