-- The map of the worked rows: a road of four nodes, a minute between neighbours.
use Rattle.std.specs.Prelude.{ℕ, List, [], ◌∷◌}
use Rattle.ride_model.specs.declared.network.RoadArc.{RoadArc}
use Rattle.ride_model.specs.declared.settings.Settings.{Settings}
use Rattle.ride_model.specs.Road.{RoadMap}

abbrev pub arc : ℕ → ℕ → ℕ → RoadArc
arc tail head seconds = record { tail = tail; head = head; seconds = seconds }

abbrev pub four_nodes : RoadMap
four_nodes = record {
  nodes = 4;
  arcs = arc 1 2 60 ∷ arc 2 1 60 ∷ arc 2 3 60 ∷ arc 3 2 60 ∷ arc 3 4 60 ∷ arc 4 3 60 ∷ [];
}

-- two roads in one direction
abbrev pub one_way : RoadMap
one_way = record { nodes = 3; arcs = arc 1 2 60 ∷ arc 2 3 60 ∷ [] }

-- the settings where a fleet file sets none
abbrev pub default_settings : Settings
default_settings = record { batch = 32; penalty = 3600; drive = 1; wait = 0; lead = 0; dwell = 0; log = 1 }
