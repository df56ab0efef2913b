-- What is done over texts that were read: the log is brought, and then both feeds where it gave a board.
use Rattle.std.specs.Prelude.{◌≡◌, ◌⊎◌, ℕ, List, Result, Ok}
use Rattle.log_audit.specs.declared.restoring.Restored.{Restored}
use Rattle.log_audit.specs.declared.restoring.Restoration.{Restoration}
use Rattle.log_audit.specs.declared.restoring.Restoration.TheVariants.{Standing}
use Rattle.log_audit.specs.declared.verdict.AuditFault.{AuditFault}
use Rattle.live_sessions.specs.Resuming.{HaveFewCommands}
use Rattle.dispatcher.specs.Meanings.{Meaning, start_of}
use Rattle.dispatcher.specs.Shelves.{Shelved, Sunk}
use Rattle.resumption.specs.inner.Goings.{GoesOnOver}
use Rattle.resumption.specs.Logs.{EndsLog}
use Rattle.dispatcher.specs.inner.Handing.{Misses}
use Rattle.resumption.specs.inner.Logs.{HandsLogBack}

-- the log was not brought
pub record MissesLog (name : List ℕ) (old new : Shelved) (out : Sunk) (status : ℕ) : Type 0 where
  pub status_is : status ≡ 5
  pub in_vain : Misses name old new
  pub untouched : out.after ≡ out.before

-- it gave no board to go on from, and that was said
pub record RefusesLog (m : Meaning) (name : List ℕ) (old new : Shelved) (out : Sunk) (status : ℕ) : Type 0 where
  pub found : Result Restoration AuditFault
  pub log : HandsLogBack (start_of m) name old new found
  pub said : EndsLog found status out

-- it gave a board with room for more, from which the session went on over both feeds
pub record StandsAndGoesOn (m : Meaning) (name riders drivers : List ℕ) (old new : Shelved) (out : Sunk) (status : ℕ) : Type 0 where
  pub restored : Restored
  pub mid : Shelved
  pub log : HandsLogBack (start_of m) name old mid (Ok (Standing restored))
  pub few : HaveFewCommands restored.board.feeds restored.board.history
  pub feeds : GoesOnOver restored.board riders drivers mid new out status

abbrev pub ResumesOver : Meaning → List ℕ → List ℕ → List ℕ → Shelved → Shelved → Sunk → ℕ → Type 0
ResumesOver m name riders drivers old new out status =
    MissesLog name old new out status ⊎ RefusesLog m name old new out status ⊎ StandsAndGoesOn m name riders drivers old new out status
