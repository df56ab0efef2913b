-- What a session writes that sends idle vehicles ahead.
use Rattle.std.specs.Prelude.{◌≡◌, ℕ, ◌++◌, ◌||◌, false, if◌then◌else◌, List, Option, Some, None}
use Rattle.std.specs.List.{flat_map}
use mathlib.Core.List.{IsPrefix}
use Rattle.ride_model.specs.declared.entry.Ending.TheVariants.{Whole, Cut}
use Rattle.ride_model.specs.declared.entry.Entry.{Entry}
use Rattle.ride_model.specs.State.{State}
use Rattle.ride_model.specs.Text.{text_of}
use Rattle.ride_ports.specs.declared.outcome.Ran.{Ran}
use Rattle.idle_moves.specs.declared.moves.MoveSheet.{MoveSheet}
use Rattle.idle_moves.specs.AheadText.{ahead_text, head_line, sheet_line}
use Rattle.idle_moves.specs.HistorySheets.{AreSheetsOf}
use Rattle.session_run.specs.Logged.{IsLogged}
use Rattle.session_run.specs.Running.{IsPrompt}

-- of the sheets of a history the text was written: of each commit one, in order, and the last line says whether the feed was cut.
-- Where memory was wanting these are the sheets of the first commits, of a beginning of the history in which each accepted ask was
-- answered at once by a commit, and no last line
pub record TellsAhead (start : State) (reach : ℕ) (ran : Ran) (taken : List ℕ) (entries : List Entry) (before after : Option (List ℕ)) : Type 0 where
  pub first : List Entry
  pub sheets : List MoveSheet
  pub begins : IsPrefix first entries
  pub prompt : IsPrompt first
  pub sheets_are : AreSheetsOf start reach first sheets
  pub all : ran.no_memory ≡ false → first ≡ entries
  pub written : IsLogged ran taken before after (if ran.no_memory then head_line reach ++ flat_map sheet_line sheets
      else ahead_text reach (if ran.source_failed || ran.too_long then Cut else Whole) sheets)

-- what was written of a session: its log, or its sheets where a reach is given
abbrev pub IsWrittenBy : Option ℕ → State → Ran → List ℕ → List Entry → Option (List ℕ) → Option (List ℕ) → Type 0
IsWrittenBy None start ran taken entries before after = IsLogged ran taken before after (text_of start.settings.log 1 1 entries)
IsWrittenBy (Some reach) start ran taken entries before after = TellsAhead start reach ran taken entries before after
