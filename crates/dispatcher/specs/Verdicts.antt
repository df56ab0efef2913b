-- What an audit of a log finds, and how it is said.
use Rattle.std.specs.Prelude.{◌≡◌, ◌≢◌, ◌⊎◌, ℕ, if◌then◌else◌, List, [], ◌++◌, IfSome, Result, Ok, Err, codes, decimal}
use Rattle.ride_ports.specs.Bytes.{Writes, WritesPrefix}
use Rattle.ride_ports.specs.Count.{KeepsCount}
use Rattle.log_audit.specs.Audit.{IsAnswer, is_read_fault}
use Rattle.log_audit.specs.Audited.{FailsAfter}
use Rattle.log_audit.specs.declared.verdict.AuditFault.{AuditFault}
use Rattle.log_audit.specs.declared.verdict.AuditFault.TheVariants.{ReadFault, TooLong, NoMemory}
use Rattle.board_core.specs.declared.board.totals.Totals.{Totals}
use Rattle.log_audit.specs.declared.verdict.Verdict.{Verdict}
use Rattle.log_audit.specs.declared.verdict.Verdict.TheVariants.{Yes, No}
use Rattle.log_audit.specs.declared.verdict.Why.{Why}
use Rattle.log_audit.specs.declared.verdict.Why.TheVariants.{Spelling, Actor, Reply, Batch, Seating, Prices, Outcomes}
use Rattle.live_sessions.specs.Serving.{FeedRun}
use Rattle.dispatcher.specs.Meanings.{Meaning, start_of}
use Rattle.dispatcher.specs.Shelves.{Says, Sunk}

-- the word for what is wrong of a line
abbrev pub word_of : Why → List ℕ
word_of Spelling = codes "spelling"
word_of Actor = codes "actor"
word_of Reply = codes "reply"
word_of Batch = codes "batch"
word_of Seating = codes "seating"
word_of Prices = codes "prices"
word_of Outcomes = codes "outcomes"

-- the line of a log that is right, and of one that is wrong
abbrev pub yes_line : Totals → List ℕ
yes_line totals =
    codes "yes entries " ++ decimal totals.entries ++ codes " confirmed " ++ decimal totals.confirmed ++ codes " away " ++ decimal totals.away
    ++ codes " picked " ++ decimal totals.picked ++ codes " dropped " ++ decimal totals.dropped ++ codes " finished "
    ++ (if totals.finished then codes "yes" else codes "no") ++ codes "\n"

abbrev pub no_line : ℕ → Why → List ℕ
no_line line why = codes "no " ++ decimal line ++ codes " " ++ word_of why ++ codes "\n"

-- how an audit's answer is said: a right log by its totals, a wrong one by its first wrong line and what is wrong of it, and
-- nothing where the log was too long, was not read, or memory was wanting
abbrev pub EndsBy : Result Verdict AuditFault → ℕ → Sunk → Type 0
EndsBy (Ok (Yes totals)) status out = ((status ≡ 0) × Writes out.before out.after (yes_line totals))
    ⊎ ((status ≡ 6) × WritesPrefix out.before out.after (yes_line totals)) ⊎ ((status ≡ 1) × (out.after ≡ out.before))
EndsBy (Ok (No line why)) status out = Says out status 7 (no_line line why)
EndsBy (Err TooLong) status out = (status ≡ 8) × (out.after ≡ out.before)
EndsBy (Err ReadFault) status out = (status ≡ 5) × (out.after ≡ out.before)
EndsBy (Err NoMemory) status out = (status ≡ 1) × (out.after ≡ out.before)

-- a log was audited: what its bytes are decides, and they are nothing else; a log that is right was read to its end; a source failed
-- after bytes within the limits of which no line was wrong
pub record Audits (m : Meaning) (log : FeedRun) (out : Sunk) (status : ℕ) : Type 0 where
  pub found : Result Verdict AuditFault
  pub answer : found ≢ Err NoMemory → found ≢ Err ReadFault → IfSome log.bytes (λ bytes. IsAnswer (start_of m) bytes found)
  pub no_other : found ≢ Err NoMemory → found ≢ Err ReadFault
      → IfSome log.bytes (λ bytes. (other : Result Verdict AuditFault) → IsAnswer (start_of m) bytes other → other ≡ found)
  pub to_end : (totals : Totals) → found ≡ Ok (Yes totals) → IfSome log.left (λ rest. rest ≡ [])
  pub before_fault : found ≡ Err ReadFault → FailsAfter (start_of m) log.bytes log.left
  pub source_faults : KeepsCount (is_read_fault found) log.faults_before log.faults_after
  pub said : EndsBy found status out
