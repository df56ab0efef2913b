-- What only lemmas and lower contracts use beside Feed.antt.
use Rattle.std.specs.Prelude.{Bool, true, false}
use Rattle.ride_model.specs.declared.command.Command.{Command}
use Rattle.ride_model.specs.declared.command.Command.TheVariants.{Request}

-- whether a command is a request
abbrev pub is_request : Command → Bool
is_request (Request _ _ _ _ _ _ _) = true
is_request _ = false
