-- The limits of a text that is read line by line, and the lines that count of one that passes them.
use Rattle.std.specs.Prelude.{ℕ, ◌<◌, ◌≤◌, ◌⊎◌, List, length, take}
use Rattle.line_text.specs.Lines.{ended_lines, lines_of}
use Rattle.line_text.specs.declared.line_reader.limits.Limits.{Limits}

-- at most so many bytes and at most so many lines
pub record IsWithinLimits (limits : Limits) (bytes : List ℕ) : Type 0 where
  pub few_bytes : length bytes ≤ limits.bytes
  pub few_lines : length (lines_of bytes) ≤ limits.lines

-- more bytes or more lines
abbrev pub IsTooLong : Limits → List ℕ → Type 0
IsTooLong limits bytes = (limits.bytes < length bytes) ⊎ (limits.lines < length (lines_of bytes))

-- the lines that an LF ends within the limits
abbrev pub lines_within : Limits → List ℕ → List (List ℕ)
lines_within limits bytes = take limits.lines (ended_lines (take limits.bytes bytes))
