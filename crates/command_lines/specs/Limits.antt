-- How a feed is read, its limits, and the commands that count of one that passes them.
use Rattle.std.specs.Prelude.{◌≡◌, ℕ, List, ◌++◌}
use Rattle.ride_model.specs.declared.command.Command.{Command}
use Rattle.line_text.specs.declared.line_reader.limits.Limits.{Limits}
use Rattle.line_text.specs.line_reader.Limits.{lines_within}
use Rattle.command_lines.specs.Commands.{commands_from}
use Rattle.command_lines.specs.declared.limits.TheConstants.{FEED_LIMITS}
use Rattle.command_lines.specs.declared.forms.FeedForm.{FeedForm}

-- the most lines of a feed
abbrev pub most_lines : ℕ
most_lines = FEED_LIMITS.lines

-- the limits of a feed that may have so many lines: of a line the first 200 bytes are kept
abbrev pub limits_of : ℕ → Limits
limits_of lines = record FEED_LIMITS { lines = lines }

-- those of a feed that begins
abbrev pub feed_limits : Limits
feed_limits = limits_of most_lines

-- a feed that begins, by a version of the log
abbrev pub new_feed : ℕ → FeedForm
new_feed log = record { log = log; lines = most_lines }

-- the commands of the lines that an LF ends within the limits
abbrev pub ended_commands : FeedForm → List ℕ → List Command
ended_commands form bytes = commands_from form.log 1 (lines_within (limits_of form.lines) bytes)

-- these commands are the first of those
abbrev pub AreFirst : List Command → List Command → Type 0
AreFirst first all = (more : List Command) × (all ≡ first ++ more)
