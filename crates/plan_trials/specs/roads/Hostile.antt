-- The arcs of maps of 60 nodes.
use Rattle.std.specs.Prelude.{[]}
use Rattle.ride_model.specs.declared.network.RoadArc.{RoadArc}
use Rattle.ride_model.specs.Road.{IsArc}

abbrev pub IsHostile : RoadArc → Type 0
IsHostile arc = IsArc (record { nodes = 60; arcs = [] }) arc
