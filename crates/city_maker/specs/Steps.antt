-- The steps of a drill.
use Rattle.std.specs.Prelude.{ℕ, List, [], ◌∷◌, ◌++◌, map}
use Rattle.std.specs.List.{flat_map, range_with_len}
use Rattle.ride_model.specs.declared.command.Actor.TheVariants.{Feed, Desk}
use Rattle.ride_model.specs.declared.command.Command.{Command}
use Rattle.ride_model.specs.declared.command.Command.TheVariants.{Clock}
use Rattle.ride_model.specs.declared.entry.Entry.{Entry}
use Rattle.ride_model.specs.Drill.{DrillStep, give, drive, end, IsDrilled}
use Rattle.ride_model.specs.State.{State, start_state}
use Rattle.city_maker.specs.declared.plan.CityPlan.{CityPlan}
use Rattle.city_maker.specs.Roads.{network_of}
use Rattle.city_maker.specs.Fleets.{default_settings, fleet_of}
use Rattle.city_maker.specs.Feed.{commands_of}

-- feed 1 gives a command; after each clock the driver of each vehicle reports, in fleet order
abbrev pub steps_with : ℕ → Command → List DrillStep
steps_with vehicles (Clock time) = give (Clock time) ∷ map drive (range_with_len 0 vehicles)
steps_with vehicles command = give command ∷ []

-- both feeds end, and then the desk
abbrev pub last_steps : List DrillStep
last_steps = end (Feed 1) ∷ end (Feed 2) ∷ end (Desk 1) ∷ []

-- the steps of the drill of a city
unfoldable pub steps_of : CityPlan → List DrillStep
steps_of plan = flat_map (steps_with plan.vehicles) (commands_of plan) ++ last_steps

-- the state of a city before its drill
abbrev pub start_of : CityPlan → State
start_of plan = start_state (network_of plan) default_settings (fleet_of plan)

-- a history of the drill of a city
abbrev pub Drilled : CityPlan → List Entry → Type 0
Drilled plan entries = IsDrilled (start_of plan) (steps_of plan) entries
