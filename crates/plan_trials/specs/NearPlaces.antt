-- Examples: settings, and the times near a ride from node 3 to node 4 of a vehicle at node 1 that stops at nodes 2 and 4.
use Rattle.std.specs.Prelude.{ℕ, List, [], ◌∷◌, Some}
use Rattle.ride_model.specs.declared.settings.Settings.{Settings}
use Rattle.insertion.specs.declared.near.Near.{Near}
use Rattle.insertion.specs.declared.near.NearStop.{NearStop}

abbrev pub settings_of : ℕ → ℕ → Settings
settings_of wait dwell = record { batch = 32; penalty = 3600; drive = 1; wait = wait; lead = 0; dwell = dwell; log = 1 }

abbrev pub near_items : List NearStop
near_items =
    record { to_from = Some 60; from_here = Some 60; to_to = Some 120; to_here = Some 120 }
    ∷ record { to_from = Some 60; from_here = Some 60; to_to = Some 0; to_here = Some 0 } ∷ []

abbrev pub near_3_to_4 : Near
near_3_to_4 = record { at_from = Some 120; at_to = Some 180; direct = Some 60; stops = record { items = near_items } }
