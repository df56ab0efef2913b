-- What a session has answered of its feed.
use Rattle.std.specs.Prelude.{◌≡◌, ℕ, ◌++◌, ◌||◌, if◌then◌else◌, Bool, true, false, List, Option, Some, None, MatchOption}
use Rattle.std.specs.List.{flat_map}
use mathlib.Core.List.{IsPrefix}
use Rattle.ride_model.specs.declared.entry.Ending.{Ending}
use Rattle.ride_model.specs.declared.entry.Ending.TheVariants.{Whole, Cut}
use Rattle.ride_model.specs.declared.entry.Entry.{Entry}
use Rattle.ride_model.specs.History.{fed_commands}
use Rattle.ride_model.specs.Text.{text_of}
use Rattle.ride_ports.specs.Bytes.{Reads}
use Rattle.ride_ports.specs.declared.outcome.Ran.{Ran}
use Rattle.command_lines.specs.Feeds.{IsWhole}
use Rattle.command_lines.specs.inner.Feeds.{IsStopped}
use Rattle.command_lines.specs.Limits.{new_feed}
use Rattle.board_core.specs.Recorded.{Recorded}
use Rattle.idle_moves.specs.declared.moves.MoveSheet.{MoveSheet}
use Rattle.idle_moves.specs.AheadText.{ahead_text, head_line, sheet_line}
use Rattle.idle_moves.specs.HistorySheets.{AreSheetsOf}
use Rattle.line_text.specs.inner.text_page.Output.{HasPut, OutputState}
use Rattle.session_loops.specs.Stops.{AreFirstOf}
use Rattle.line_text.specs.declared.line_reader.stops.Stop.{Stop}
use Rattle.line_text.specs.declared.line_reader.stops.Stop.TheVariants.{NoMemory, OfFeed}
use Rattle.session_run.specs.inner.SessionState.{SessionState}
use Rattle.session_run.specs.Running.{IsPrompt}
use Rattle.session_run.specs.inner.Running.{IsSession, IsRunning}

-- how the feed of a session ended that ran so
abbrev pub feed_ending : Ran → Ending
feed_ending ran = if ran.source_failed || ran.too_long then Cut else Whole

-- the text of sheets, without its last line where memory was wanting
abbrev pub sheets_text : ℕ → Bool → Ending → List MoveSheet → List ℕ
sheets_text reach no_memory ending sheets =
    if no_memory then head_line reach ++ flat_map sheet_line sheets else ahead_text reach ending sheets

-- why a session's feed was stopped after these bytes: memory was wanting, or the feed gave no more
abbrev pub IsEnded : ℕ → Stop → Recorded → Bool → List ℕ → Type 0
IsEnded log NoMemory board no_memory bytes = IsSession board × (board.feeds ≡ 1) × (no_memory ≡ true)
IsEnded log (OfFeed stop) board no_memory bytes = IsRunning board no_memory × IsStopped (new_feed log) stop (fed_commands 1 board.history) bytes

-- a session's feed was answered to its end, or until something stopped it
abbrev pub HasEnded : ℕ → Option (List ℕ) → Option Stop → Recorded → Bool → List ℕ → Type 0
HasEnded log left stop board no_memory bytes = MatchOption stop
    (IsRunning board no_memory × IsWhole (new_feed log) left (fed_commands 1 board.history) bytes)
    (λ why. IsEnded log why board no_memory bytes)

-- of a feed with these bytes some were taken and answered, so that those are left
pub record HasRun (log : ℕ) (feed left : Option (List ℕ)) (stop : Option Stop) (board : Recorded) (no_memory : Bool) : Type 0 where
  pub taken : List ℕ
  pub reads : Reads feed left taken
  pub first : AreFirstOf (new_feed log) feed taken (fed_commands 1 board.history)
  pub ended : HasEnded log left stop board no_memory taken

-- what was logged is the text of the board's history
abbrev pub IsTold : Option (List ℕ) → Option (List ℕ) → ℕ → ℕ → OutputState → Recorded → Type 0
IsTold earlier now faults_before faults_now log board =
    HasPut earlier now faults_before faults_now log (text_of board.start.settings.log 1 1 board.history)

-- of the sheets within a reach of a session's history this text was written: of all its commits where memory was not wanting, and
-- else of those before it was
pub record TellsSheets (reach : ℕ) (text : List MoveSheet → List ℕ) (earlier now : Option (List ℕ)) (faults_before faults_now : ℕ) (s : SessionState)
    : Type 0 where
  pub first : List Entry
  pub sheets : List MoveSheet
  pub begins : IsPrefix first s.board.history
  pub prompt : IsPrompt first
  pub sheets_are : AreSheetsOf s.board.start reach first sheets
  pub all : s.no_memory ≡ false → first ≡ s.board.history
  pub logged : HasPut earlier now faults_before faults_now s.output (text sheets)

-- what was written of a session so far: its log, or sheets
abbrev pub HasToldBy : Option ℕ → Option (List ℕ) → Option (List ℕ) → ℕ → ℕ → SessionState → Type 0
HasToldBy None earlier now faults_before faults_now s = IsTold earlier now faults_before faults_now s.output s.board
HasToldBy (Some reach) earlier now faults_before faults_now s =
    TellsSheets reach (λ sheets. head_line reach ++ flat_map sheet_line sheets) earlier now faults_before faults_now s

abbrev pub HasTold : Option (List ℕ) → Option (List ℕ) → ℕ → ℕ → SessionState → Type 0
HasTold earlier now faults_before faults_now s = HasToldBy s.reach earlier now faults_before faults_now s

-- what was written of a session at its end: its log, or sheets with their last line where memory was not wanting
abbrev pub HasToldAllBy : Option ℕ → Ending → Option (List ℕ) → Option (List ℕ) → ℕ → ℕ → SessionState → Type 0
HasToldAllBy None ending earlier now faults_before faults_now s = IsTold earlier now faults_before faults_now s.output s.board
HasToldAllBy (Some reach) ending earlier now faults_before faults_now s =
    TellsSheets reach (sheets_text reach s.no_memory ending) earlier now faults_before faults_now s

abbrev pub HasToldAll : Ending → Option (List ℕ) → Option (List ℕ) → ℕ → ℕ → SessionState → Type 0
HasToldAll ending earlier now faults_before faults_now s = HasToldAllBy s.reach ending earlier now faults_before faults_now s
