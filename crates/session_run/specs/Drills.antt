-- What a drill goes through, and what is written of it.
use Rattle.std.specs.Prelude.{ℕ, ◌++◌, List, length, codes, decimal}
use Rattle.ride_model.specs.declared.entry.Entry.{Entry}
use Rattle.ride_model.specs.History.{confirmed_total, away_total, dropped_total}
use Rattle.ride_model.specs.Legal.{replay}
use Rattle.city_maker.specs.declared.plan.CityPlan.{CityPlan}
use Rattle.city_maker.specs.Plan.{nodes_of}
use Rattle.city_maker.specs.Roads.{network_of}
use Rattle.city_maker.specs.Steps.{start_of}

-- the line of a drill with this history
abbrev pub summary_line : CityPlan → List Entry → List ℕ
summary_line plan entries = codes "drill nodes " ++ decimal (nodes_of plan) ++ codes " arcs " ++ decimal (length (network_of plan).arcs)
    ++ codes " vehicles " ++ decimal plan.vehicles ++ codes " requests " ++ decimal plan.requests
    ++ codes " batches " ++ decimal (replay (start_of plan) entries).opened ++ codes " confirmed " ++ decimal (confirmed_total entries)
    ++ codes " away " ++ decimal (away_total entries) ++ codes " dropped " ++ decimal (dropped_total entries) ++ codes "\n"
