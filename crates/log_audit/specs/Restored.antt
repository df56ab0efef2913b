-- What a log gives back that may end anywhere.
use Rattle.std.specs.Prelude.{◌≡◌, ℕ, ◌<◌, ◌≤◌, ◌⊎◌, List, ◌++◌, length, Result, Ok, Err}
use Rattle.line_text.specs.line_reader.Limits.{IsTooLong}
use Rattle.line_text.specs.line_reader.Reader.{HasNoLf}
use Rattle.line_text.specs.Lines.{ended_lines}
use Rattle.ride_model.specs.State.{State, open_batch_of}
use Rattle.board_core.specs.Recorded.{state_of}
use Rattle.log_audit.specs.declared.restoring.Restored.{Restored}
use Rattle.log_audit.specs.declared.restoring.Restoration.{Restoration}
use Rattle.log_audit.specs.declared.restoring.Restoration.TheVariants.{Standing, No}
use Rattle.log_audit.specs.declared.verdict.AuditFault.{AuditFault}
use Rattle.log_audit.specs.Audit.{IsAnswer, IsLogOf, IsWrongLine}
use Rattle.log_audit.specs.Limits.{Counts}
use Rattle.log_audit.specs.declared.limits.TheConstants.{LOG_LIMITS}

-- the bytes are the text of the board's history, and then what no LF ends; the batches are those that are open then
pub record StandsAt (start : State) (bytes : List ℕ) (restored : Restored) : Type 0 where
  pub text : List ℕ
  pub torn : List ℕ
  pub bytes_are : bytes ≡ text ++ torn
  pub no_lf : HasNoLf torn
  pub within : IsTooLong LOG_LIMITS bytes → ⊥
  pub start_is : restored.board.start ≡ start
  pub log : IsLogOf start restored.board.feeds restored.board.desks restored.board.history text
  pub first_is : restored.first ≡ open_batch_of (state_of restored.board) 1
  pub second_is : restored.second ≡ open_batch_of (state_of restored.board) 2

-- a board stands at this start, with fewer entries than a log may have lines, and with the batches that are open on it
pub record IsBoardOf (start : State) (restored : Restored) : Type 0 where
  pub start_is : restored.board.start ≡ start
  pub few : length restored.board.history < LOG_LIMITS.lines
  pub first_is : restored.first ≡ open_batch_of (state_of restored.board) 1
  pub second_is : restored.second ≡ open_batch_of (state_of restored.board) 2

-- the head, or a line that an LF ends
abbrev pub IsHeadOrEnded : List ℕ → ℕ → Type 0
IsHeadOrEnded bytes line = (line ≡ 1) ⊎ (line ≤ length (ended_lines bytes))

-- what these bytes give back: a board; the first wrong line, which is the head or has its LF; or they are too long, as an audit says
abbrev pub IsRestoration : State → List ℕ → Result Restoration AuditFault → Type 0
IsRestoration start bytes (Ok (Standing restored)) = StandsAt start bytes restored
IsRestoration start bytes (Ok (No line why)) = IsWrongLine start bytes line why × Counts bytes line × IsHeadOrEnded bytes line
IsRestoration start bytes (Err fault) = IsAnswer start bytes (Err fault)

-- the same but for the room that a board has for more entries
abbrev pub IsSameButRoom : Result Restoration AuditFault → Result Restoration AuditFault → Type 0
IsSameButRoom (Ok (Standing a)) (Ok (Standing b)) = a ≡ record b { board = record b.board { spare = a.board.spare } }
IsSameButRoom a b = a ≡ b
