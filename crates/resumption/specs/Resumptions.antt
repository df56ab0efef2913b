-- How a session that was to go on from its log ends.
use Rattle.std.specs.Prelude.{◌≡◌, ◌⊎◌, ℕ, true, List, [], ◌∷◌, length, map, All, Option, IfSome, Result, Ok}
use Rattle.ride_ports.specs.Contents.{Contents, given_back}
use Rattle.ride_ports.specs.Count.{Rose}
use Rattle.line_text.specs.line_reader.Limits.{IsWithinLimits}
use Rattle.board_core.specs.Recorded.{Recorded}
use Rattle.log_audit.specs.Restored.{IsRestoration}
use Rattle.log_audit.specs.declared.restoring.Restored.{Restored}
use Rattle.log_audit.specs.declared.restoring.Restoration.{Restoration}
use Rattle.log_audit.specs.declared.restoring.Restoration.TheVariants.{Standing}
use Rattle.log_audit.specs.declared.verdict.AuditFault.{AuditFault}
use Rattle.live_sessions.specs.Resuming.{HaveFewCommands}
use Rattle.run_words.specs.Resumptions.{GoingOn, resumption_files}
use Rattle.run_words.specs.Words.{File, fleet_file, log_file, map_file, name_of}
use Rattle.dispatcher.specs.Meanings.{Meaning, Means, start_of}
use Rattle.dispatcher.specs.Runs.{HasStopped, IsOver, IsWhole}
use Rattle.dispatcher.specs.Shelves.{AreBack, IsFresh, IsSpent, Shelved, Sunk, told_bytes}
use Rattle.resumption.specs.Goings.{GoesOn, room_of, still_gives}
use Rattle.resumption.specs.Logs.{EndsLog, ReadsLog}

-- the files up to the log
abbrev pub files_to_log : GoingOn → List File
files_to_log asked = map_file asked.map ∷ fleet_file asked.fleet ∷ log_file asked.log ∷ []

-- the log gave no board to go on from: that is said as an audit says it, and no further name was asked for
pub record HasRefusedLog (asked : GoingOn) (old new : Shelved) (out : Sunk) (status : ℕ) : Type 0 where
  pub none_further : new.asked ≡ map name_of (files_to_log asked)
  pub all_brought : new.brought ≡ length (files_to_log asked)
  pub back : AreBack old.told new
  pub meaning : Meaning
  pub means : All (Means old.told meaning) (files_to_log asked)
  pub over : IsOver old.told asked.log new.back
  pub found : Result Restoration AuditFault
  pub reads : ReadsLog (start_of meaning) over.feed found
  pub said : EndsLog found status out
  pub shelf_sound : (status ≡ 5 → ⊥) → new.faults ≡ old.faults
  pub shelf_fault : status ≡ 5 → Rose old.faults new.faults

-- all files were brought, the log gave a board, which has room for more, and the session went on from it. Nothing is left of the texts and of the log; where the
-- session ran whole, nothing is left of a feed that still gave commands either, and no count rose
pub record HasGoneOn (asked : GoingOn) (old new : Shelved) (out : Sunk) (status : ℕ) : Type 0 where
  pub all_asked : new.asked ≡ map name_of (resumption_files asked)
  pub all_brought : new.brought ≡ length (resumption_files asked)
  pub back : AreBack old.told new
  pub meaning : Meaning
  pub means : All (Means old.told meaning) (resumption_files asked)
  pub drivers : IsOver old.told asked.drivers new.back
  pub riders : IsOver old.told asked.riders drivers.earlier
  pub log : IsOver old.told asked.log riders.earlier
  pub restored : Restored
  pub reads : ReadsLog (start_of meaning) log.feed (Ok (Standing restored))
  pub few : HaveFewCommands restored.board.feeds restored.board.history
  pub goes_on : GoesOn restored.board riders.feed drivers.feed out status
  pub log_spent : All IsSpent riders.earlier
  pub riders_spent : status ≡ 0 → still_gives restored.board 1 ≡ true → IsSpent (given_back riders.feed.faults_after riders.feed.left)
  pub drivers_spent : status ≡ 0 → still_gives restored.board 2 ≡ true → IsSpent (given_back drivers.feed.faults_after drivers.feed.left)
  pub shelf_sound : status ≡ 0 → new.faults ≡ old.faults
  pub sink_sound : status ≡ 0 → out.faults_after ≡ out.faults_before
  pub shelf_fault : status ≡ 5 → Rose old.faults new.faults
  pub sink_fault : status ≡ 6 → Rose out.faults_before out.faults_after

-- a board's feeds gave few commands, and those that are told have no more lines than they may still have
pub record HasRoom (told : Option Contents) (asked : GoingOn) (board : Recorded) : Type 0 where
  pub few : HaveFewCommands board.feeds board.history
  pub of_riders : IfSome (told_bytes told asked.riders) (IsWithinLimits (room_of board 1))
  pub of_drivers : IfSome (told_bytes told asked.drivers) (IsWithinLimits (room_of board 2))

-- its files are told and whole, and the board that its log gives back has room for its feeds
pub record AreAllWhole (told : Option Contents) (asked : GoingOn) : Type 0 where
  pub meaning : Meaning
  pub files : All (IsWhole told meaning) (resumption_files asked)
  pub room : (other : Meaning) (restored : Restored) → All (Means told other) (files_to_log asked)
      → IfSome (told_bytes told asked.log) (λ bytes. IsRestoration (start_of other) bytes (Ok (Standing restored)))
      → HasRoom told asked restored.board

-- it ended so: memory was wanting before it began, or it stopped over a file, or its log gave no board, or it went on. Where the files are
-- whole and no count rose, it went on whole, or its log is wrong, or memory was wanting
pub record IsResumption (asked : GoingOn) (old new : Shelved) (out : Sunk) (status : ℕ) : Type 0 where
  pub ended : ((status ≡ 1) × IsFresh new × (out.after ≡ out.before)) ⊎ HasStopped (resumption_files asked) old new out status
      ⊎ HasRefusedLog asked old new out status ⊎ HasGoneOn asked old new out status
  pub complete : AreAllWhole old.told asked → (Rose old.faults new.faults → ⊥) → (Rose out.faults_before out.faults_after → ⊥)
      → (status ≡ 0) ⊎ (status ≡ 1) ⊎ (status ≡ 7)
