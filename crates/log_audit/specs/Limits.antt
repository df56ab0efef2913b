-- The limits of a log.
use Rattle.std.specs.Prelude.{ℕ, ◌≤◌, min, List, length, take}
use Rattle.log_audit.specs.declared.limits.TheConstants.{LOG_LIMITS}
use Rattle.line_text.specs.line_reader.Limits.{IsTooLong}
use Rattle.line_text.specs.Lines.{ended_lines}

-- a line counts: of a log that is too long only those lines do that an LF ends within the limits
abbrev pub Counts : List ℕ → ℕ → Type 0
Counts bytes line = IsTooLong LOG_LIMITS bytes → line ≤ min LOG_LIMITS.lines (length (ended_lines (take LOG_LIMITS.bytes bytes)))
