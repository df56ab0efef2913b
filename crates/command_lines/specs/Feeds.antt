-- What a reader has given of a feed.
use Rattle.std.specs.Prelude.{◌≡◌, ℕ, List, [], Option, IfSome}
use Rattle.ride_model.specs.declared.command.Command.{Command}
use Rattle.line_text.specs.line_reader.Limits.{IsWithinLimits}
use Rattle.command_lines.specs.Commands.{commands_of}
use Rattle.command_lines.specs.declared.forms.FeedForm.{FeedForm}
use Rattle.command_lines.specs.Limits.{limits_of}

-- a feed was read to its end: these are the commands of all its bytes, of which none is left
pub record IsWhole (form : FeedForm) (left : Option (List ℕ)) (commands : List Command) (bytes : List ℕ) : Type 0 where
  pub within : IsWithinLimits (limits_of form.lines) bytes
  pub commands_are : commands ≡ commands_of form.log bytes
  pub to_end : IfSome left (λ rest. rest ≡ [])
