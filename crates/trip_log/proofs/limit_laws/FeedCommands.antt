-- A feed within its limits gives no more commands than it may have lines.
use Rattle.trip_log.proofs.Common.{ℕ, ◌≤◌, List, length, take, ap, arith, length-append, length-take, ended_lines, lines_of, Command, commands_from, commands_of}
use Rattle.line_text.specs.line_reader.Limits.{IsWithinLimits}
use Rattle.command_lines.specs.declared.forms.FeedForm.{FeedForm}
use Rattle.command_lines.specs.Limits.{AreFirst, ended_commands, limits_of}
use Rattle.command_lines.proofs.LineCommands.{length-commands_from-le}

-- the first of others are no more
first-le : (commands all : List Command) → AreFirst commands all → length commands ≤ length all
first-le commands all (more, is) = omega (arith, ap length is, length-append commands more)

pub whole-le : (form : FeedForm) (bytes : List ℕ) (commands : List Command) → IsWithinLimits (limits_of form.lines) bytes
    → AreFirst commands (commands_of form.log bytes) → length commands ≤ form.lines
whole-le form bytes commands within first =
    omega (arith, first-le commands (commands_of form.log bytes) first, length-commands_from-le form.log 1 (lines_of bytes), within.few_lines)

-- lines give no more commands than they are
taken-le : (log most : ℕ) (lines : List (List ℕ)) → length (commands_from log 1 (take most lines)) ≤ most
taken-le log most lines = omega (arith, length-commands_from-le log 1 (take most lines), length-take most lines)

pub ended-le : (form : FeedForm) (bytes : List ℕ) (commands : List Command) → AreFirst commands (ended_commands form bytes)
    → length commands ≤ form.lines
ended-le form bytes commands first =
    through (length commands) (length (ended_commands form bytes)) form.lines (first-le commands (ended_commands form bytes) first)
    (taken-le form.log form.lines (ended_lines (take 67108864 bytes)))
  where
    through : (a b c : ℕ) → a ≤ b → b ≤ c → a ≤ c
    through a b c low high = omega (arith, low, high)
