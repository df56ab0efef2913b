-- What only lemmas and lower contracts use beside Commands.antt.
use Rattle.std.specs.Prelude.{ℕ, if◌then◌else◌, List, Option, None}
use Rattle.line_text.specs.Fields.{fields_of, is_over_long}
use Rattle.ride_model.specs.declared.command.Command.{Command}
use Rattle.command_lines.specs.Commands.{command_of_fields}

-- the command that a line spells. A line of more than 200 bytes spells none
abbrev pub command_of : ℕ → List ℕ → Option Command
command_of log line = if is_over_long line then None else command_of_fields log (fields_of line)
