-- What a loop has taken of a feed, and how a feed ends.
use Rattle.std.specs.Prelude.{ℕ, ◌≤◌, List, length, Option, IfSome}
use Rattle.ride_model.specs.declared.command.Command.{Command}
use Rattle.command_lines.specs.Commands.{commands_of}
use Rattle.command_lines.specs.declared.forms.FeedForm.{FeedForm}
use Rattle.command_lines.specs.Limits.{AreFirst}

-- these commands are the first that a feed gives of the bytes that were taken, and of all its bytes, where they are told; and they
-- are no more than it may have lines
pub record AreFirstOf (form : FeedForm) (feed : Option (List ℕ)) (taken : List ℕ) (commands : List Command) : Type 0 where
  pub of_taken : AreFirst commands (commands_of form.log taken)
  pub of_feed : IfSome feed (λ bytes. AreFirst commands (commands_of form.log bytes))
  pub few : length commands ≤ form.lines
