-- What only lemmas and lower contracts use beside Logs.antt.
use Rattle.std.specs.Prelude.{◌≡◌, ◌≢◌, ℕ, List, [], ◌∷◌, Option, Some, None, Result, Err}
use Rattle.ride_ports.specs.Contents.{GivenBack}
use Rattle.ride_ports.specs.Count.{Rose}
use Rattle.ride_model.specs.State.{State}
use Rattle.log_audit.specs.declared.restoring.Restoration.{Restoration}
use Rattle.log_audit.specs.declared.verdict.AuditFault.{AuditFault}
use Rattle.log_audit.specs.declared.verdict.AuditFault.TheVariants.{ReadFault}
use Rattle.live_sessions.specs.Serving.{FeedRun}
use Rattle.dispatcher.specs.Shelves.{Shelved, told_bytes}
use Rattle.dispatcher.specs.inner.Handing.{Adds, IsBackOf, Misses}
use Rattle.resumption.specs.Logs.{ReadsLog}

-- the source of a log was brought, read and given back
pub record HandsLogBack (start : State) (name : List ℕ) (old new : Shelved) (found : Result Restoration AuditFault) : Type 0 where
  pub log : FeedRun
  pub source : GivenBack
  pub adds : Adds (name ∷ []) 1 (source ∷ []) old new
  pub of_file : IsBackOf (told_bytes old.told name) source log
  pub reads : ReadsLog start log found
  pub sound : found ≢ Err ReadFault → new.faults ≡ old.faults
  pub fault : found ≡ Err ReadFault → Rose old.faults new.faults

abbrev pub BringsLog : State → List ℕ → Shelved → Shelved → Option (Result Restoration AuditFault) → Type 0
BringsLog start name old new None = Misses name old new
BringsLog start name old new (Some found) = HandsLogBack start name old new found
