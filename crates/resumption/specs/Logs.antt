-- What the log of what was before gives back, and how it is said where it gives no board.
use Rattle.std.specs.Prelude.{◌≡◌, ◌≢◌, ℕ, [], Result, Ok, Err, IfSome}
use Rattle.ride_ports.specs.Count.{KeepsCount}
use Rattle.ride_model.specs.State.{State}
use Rattle.log_audit.specs.declared.restoring.Restored.{Restored}
use Rattle.log_audit.specs.declared.restoring.Restoration.{Restoration}
use Rattle.log_audit.specs.declared.restoring.Restoration.TheVariants.{Standing, No}
use Rattle.log_audit.specs.declared.verdict.AuditFault.{AuditFault}
use Rattle.log_audit.specs.declared.verdict.AuditFault.TheVariants.{NoMemory, ReadFault, TooLong}
use Rattle.log_audit.specs.declared.verdict.Verdict.TheVariants.{No as NoVerdict}
use Rattle.log_audit.specs.Audit.{is_read_fault}
use Rattle.log_audit.specs.Audited.{FailsAfter}
use Rattle.log_audit.specs.LogLines.{TakesSome}
use Rattle.log_audit.specs.Restored.{IsBoardOf, IsRestoration, IsSameButRoom}
use Rattle.live_sessions.specs.Resuming.{HaveFewCommands}
use Rattle.live_sessions.specs.Serving.{FeedRun}
use Rattle.dispatcher.specs.Shelves.{Sunk}
use Rattle.dispatcher.specs.Verdicts.{EndsBy}

-- a log over a start was read, and this is what it gave back: what its bytes are decides, and they are nothing else; a board stands at the
-- start, and the whole log was read; a source failed after bytes within the limits of which no line was wrong
pub record ReadsLog (start : State) (log : FeedRun) (found : Result Restoration AuditFault) : Type 0 where
  pub answer : found ≢ Err NoMemory → found ≢ Err ReadFault → IfSome log.bytes (λ bytes. IsRestoration start bytes found)
  pub no_other : found ≢ Err NoMemory → found ≢ Err ReadFault
      → IfSome log.bytes (λ bytes. (other : Result Restoration AuditFault) → IsRestoration start bytes other → IsSameButRoom other found)
  pub stands : (restored : Restored) → found ≡ Ok (Standing restored) → IsBoardOf start restored
  pub to_end : (restored : Restored) → found ≡ Ok (Standing restored) → IfSome log.left (λ rest. rest ≡ [])
  pub before_fault : found ≡ Err ReadFault → FailsAfter start log.bytes log.left
  pub taken : TakesSome log.bytes log.left
  pub faults : KeepsCount (is_read_fault found) log.faults_before log.faults_after

-- a log that gives no board is told as an audit tells it: its first wrong line and why, and nothing where it was too long or not
-- read, or where memory was wanting. One of which a feed gave more commands than it may have lines is too long to be gone on from
abbrev pub EndsLog : Result Restoration AuditFault → ℕ → Sunk → Type 0
EndsLog (Ok (Standing restored)) status out = (HaveFewCommands restored.board.feeds restored.board.history → ⊥) × EndsBy (Err TooLong) status out
EndsLog (Ok (No line why)) status out = EndsBy (Ok (NoVerdict line why)) status out
EndsLog (Err fault) status out = EndsBy (Err fault) status out
