-- What only lemmas and lower contracts use beside Steps.antt.
use Rattle.std.specs.Prelude.{List, Option, Some, None}
use Rattle.std.specs.List.{filter_map}
use Rattle.ride_model.specs.declared.command.Command.{Command}
use Rattle.ride_model.specs.Drill.{DrillStep, give}

-- the command that a step gives
abbrev pub given : DrillStep → Option Command
given (give command) = Some command
given _ = None

-- the commands that steps give, in order
abbrev pub given_in : List DrillStep → List Command
given_in steps = filter_map given steps
