-- What only lemmas and lower contracts use beside Feeds.antt.
use Rattle.std.specs.List.{list_any}
use Rattle.std.specs.Prelude.{◌≡◌, ◌==◌, ◌&&◌, ℕ, ◌+◌, Bool, false, nat_le, MatchBool, if◌then◌else◌, List, [], ◌∷◌, ◌++◌, Option}
use Rattle.ride_model.specs.declared.command.Command.{Command}
use Rattle.line_text.specs.Lines.{ended_lines}
use Rattle.line_text.specs.declared.line_reader.answers.ReadStop.{ReadStop}
use Rattle.line_text.specs.inner.line_reader.Reader.{ReaderState, StopsAt, HasGiven as HasGivenLines}
use Rattle.command_lines.specs.Commands.{commands_from}
use Rattle.command_lines.specs.declared.forms.FeedForm.{FeedForm}
use Rattle.command_lines.specs.Limits.{ended_commands, limits_of}
use Rattle.command_lines.specs.inner.Limits.{IsForm}
use Rattle.command_lines.specs.Feeds.{IsWhole}

-- a feed was stopped after these bytes: these are the commands of the lines that an LF ends within the limits. The source
-- failed within the limits, or the bytes pass them
abbrev pub IsStopped : FeedForm → ReadStop → List Command → List ℕ → Type 0
IsStopped form stop commands bytes =
    StopsAt (limits_of form.lines) bytes stop × (commands ≡ ended_commands form bytes)

-- a reader of a feed: how it is read, the reader of its lines, and whether it was read to its end
pub record FeedState : Type 0 where
  pub form : FeedForm
  pub lines : ReaderState
  pub ended : Bool

-- these bytes were taken of a feed: first those of whole lines, which gave these commands, and then those that are pending
pub record HasCut (reader : FeedState) (commands : List Command) (bytes : List ℕ) : Type 0 where
  pub cut : List ℕ
  pub parts : bytes ≡ cut ++ reader.lines.pending
  pub limits : reader.lines.limits ≡ limits_of reader.form.lines
  pub given : HasGivenLines reader.lines cut
  pub commands_are : commands ≡ commands_from reader.form.log 1 (ended_lines cut)

-- a reader has taken these bytes of a feed, of which these are left, and has given these commands of them
pub record HasGiven (reader : FeedState) (left : Option (List ℕ)) (commands : List Command) (bytes : List ℕ) : Type 0 where
  pub form_is : IsForm reader.form
  pub given : MatchBool reader.ended (IsWhole reader.form left commands bytes) (HasCut reader commands bytes)

-- how often lines may be asked for
abbrev pub lines_ahead : FeedState → ℕ
lines_ahead reader = if reader.ended then 0 else reader.lines.lines_left + 1

-- whether a text begins with a small letter
abbrev pub begins_with_letter : List ℕ → Bool
begins_with_letter [] = false
begins_with_letter (b ∷ bytes) = nat_le 97 b && nat_le b 122

-- whether a line that says something stands whole at the front of these bytes
abbrev pub is_ready : List ℕ → Bool
is_ready bytes = begins_with_letter bytes && list_any (λ b. b == 10) bytes
