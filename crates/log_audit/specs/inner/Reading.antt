-- How the reading of a log ends.
use Rattle.std.specs.Prelude.{◌≡◌, ◌≢◌, ℕ, ◌+◌, ◌<◌, ⊤, List, [], length, Option, IfSome, Err}
use Rattle.ride_model.specs.State.{State}
use Rattle.line_text.specs.inner.line_reader.Reader.{ReaderState}
use Rattle.log_audit.specs.declared.auditor.Auditor.{Auditor}
use Rattle.log_audit.specs.declared.fault.Fault.{Fault}
use Rattle.log_audit.specs.declared.reading.Ended.{Ended}
use Rattle.log_audit.specs.declared.reading.Ended.TheVariants.{Whole, Torn, Wrong}
use Rattle.log_audit.specs.declared.reading.Reading.{Reading}
use Rattle.log_audit.specs.declared.reading.Reading.TheVariants.{NoHead, Lines}
use Rattle.log_audit.specs.declared.verdict.AuditFault.{AuditFault}
use Rattle.log_audit.specs.declared.verdict.AuditFault.TheVariants.{ReadFault, TooLong, NoMemory}
use Rattle.log_audit.specs.Audit.{IsAnswer, IsLogOf}
use Rattle.log_audit.specs.Audited.{FailsAfter}
use Rattle.log_audit.specs.inner.Audited.{HasReadNoHead, IsWrongLineAfter, text_so_far}
use Rattle.log_audit.specs.inner.Auditing.{IsAuditing, LeavesDue}
use Rattle.log_audit.specs.declared.limits.TheConstants.{LOG_LIMITS}
use Rattle.log_audit.specs.inner.LogLines.{IsAtEnd, IsNextLine}

-- all of a log was read: the text of the board's history, and then some bytes that no LF ends
pub record HasReadAll (before left : Option (List ℕ)) (start : State) (auditor : Auditor) (rest : List ℕ) : Type 0 where
  pub auditing : IsAuditing auditor
  pub start_is : auditor.board.start ≡ start
  pub log : IsLogOf auditor.board.start auditor.board.feeds auditor.board.desks auditor.board.history (text_so_far auditor.board)
  pub few : length auditor.board.history < LOG_LIMITS.lines
  pub end : IsAtEnd before left (text_so_far auditor.board) rest

-- the text of a board's history was read, and then a wrong line, which has this number
pub record HasReadWrong (before left : Option (List ℕ)) (start : State) (new : Auditor) (number : ℕ) (fault : Fault) : Type 0 where
  pub old : Auditor
  pub auditing : IsAuditing old
  pub start_is : old.board.start ≡ start
  pub log : IsLogOf old.board.start old.board.feeds old.board.desks old.board.history (text_so_far old.board)
  pub lines : ReaderState
  pub line : List ℕ
  pub next : IsNextLine before left lines (text_so_far old.board) line
  pub wrong : IsWrongLineAfter old.board line fault.why
  pub number_is : number ≡ length old.board.history + 2
  pub due : LeavesDue old new fault.why fault.batch

-- how the lines of a log end
abbrev pub HasEnded : Option (List ℕ) → Option (List ℕ) → State → Auditor → Ended → Type 0
HasEnded before left start auditor Whole = HasReadAll before left start auditor []
HasEnded before left start auditor (Torn line) =
    (rest : List ℕ) × HasReadAll before left start auditor rest × (rest ≢ []) × (line ≡ length auditor.board.history + 2)
HasEnded before left start auditor (Wrong line fault) = HasReadWrong before left start auditor line fault

-- how a log was read
abbrev pub HasReadLog : Option (List ℕ) → Option (List ℕ) → State → Reading → Type 0
HasReadLog before left start NoHead = HasReadNoHead before start.settings.log
HasReadLog before left start (Lines auditor ended) = HasEnded before left start auditor ended

-- why a log was not read on
abbrev pub StopsReading : Option (List ℕ) → Option (List ℕ) → State → AuditFault → Type 0
StopsReading before left start ReadFault = FailsAfter start before left
StopsReading before left start TooLong = IfSome before (λ bytes. IsAnswer start bytes (Err TooLong))
StopsReading before left start NoMemory = ⊤
