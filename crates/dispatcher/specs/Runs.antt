-- How a run over the files of what was asked for ends.
use Rattle.std.specs.Prelude.{◌≡◌, ◌⊎◌, ℕ, List, [], ◌∷◌, ◌++◌, length, drop, map, All, Option, Some, IfSome, IsSomeAnd}
use Rattle.ride_ports.specs.Contents.{Contents, GivenBack, given_back}
use Rattle.ride_ports.specs.Count.{Rose}
use Rattle.line_text.specs.line_reader.Limits.{IsTooLong, IsWithinLimits}
use Rattle.command_lines.specs.Limits.{feed_limits}
use Rattle.log_audit.specs.declared.limits.TheConstants.{LOG_LIMITS}
use Rattle.live_sessions.specs.Serving.{FeedRun}
use Rattle.run_words.specs.Words.{Asked, a_replay, an_audit, a_service, a_drill, a_booking, a_league, feed_file, File, files_of, log_file, name_of}
use Rattle.dispatcher.specs.Meanings.{IsTextOf, Meaning, Means, said_of, status_of, StopsAt}
use Rattle.dispatcher.specs.Shelves.{AreBack, IsFresh, IsSpent, Says, Shelved, Sunk, told_bytes}
use Rattle.dispatcher.specs.Verdicts.{Audits}
use Rattle.dispatcher.specs.Works.{Books, Drills, PlaysLeague, Replays, Serves}
use Rattle.dispatcher.specs.declared.stop.Stop.{Stop}
use Rattle.dispatcher.specs.declared.stop.Stop.TheVariants.{ShelfFault}

-- a run stopped at the file that was asked for last, behind files that mean this. The shelf's count rose where it says so
pub record StopsReading (files : List File) (stop : Stop) (old new : Shelved) : Type 0 where
  pub earlier : List File
  pub file : File
  pub later : List File
  pub files_are : files ≡ earlier ++ file ∷ later
  pub asked_are : new.asked ≡ map name_of (earlier ++ file ∷ [])
  pub meaning : Meaning
  pub means : All (Means old.told meaning) earlier
  pub why : StopsAt old.told meaning file (drop (length earlier) new.back) stop
  pub back : AreBack old.told new
  pub rose : stop ≡ ShelfFault → Rose old.faults new.faults

-- a run stopped before its work: the status and the line tell why, unless memory was wanting for that
abbrev pub HasStopped : List File → Shelved → Shelved → Sunk → ℕ → Type 0
HasStopped files old new out status = (stop : Stop) × StopsReading files stop old new × Says out status (status_of stop) (said_of stop)

-- the source that was given back last is that of a file: it was brought without a fault, with the bytes of its name where they are told
pub record IsOver (told : Option Contents) (name : List ℕ) (back : List GivenBack) : Type 0 where
  pub feed : FeedRun
  pub earlier : List GivenBack
  pub back_is : back ≡ earlier ++ given_back feed.faults_after feed.left ∷ []
  pub bytes_are : IfSome (told_bytes told name) (λ bytes. feed.bytes ≡ Some bytes)
  pub fresh : feed.faults_before ≡ 0

-- what was done, by what was asked for
abbrev pub Does : Asked → Option Contents → Meaning → List GivenBack → Sunk → ℕ → Type 0
Does (a_replay map fleet feed reach) told m back out status = (over : IsOver told feed back) × Replays m reach over.feed out status
Does (an_audit map fleet log) told m back out status = (over : IsOver told log back) × Audits m over.feed out status
Does (a_service map fleet riders drivers workers desks) told m back out status =
    (second : IsOver told drivers back) × (first : IsOver told riders second.earlier) × Serves m desks first.feed second.feed out status
Does (a_drill plan) told m back out status = Drills plan out status
Does (a_booking feed) told m back out status = (over : IsOver told feed back) × Books over.feed out status
Does (a_league map fleet second feed) told m back out status = (over : IsOver told feed back) × PlaysLeague m over.feed out status

-- all files were brought, and the work was done. A whole run leaves nothing of any source, and no count rose in it; where no file was
-- asked for the shelf is as it was
pub record HasWorked (ask : Asked) (old new : Shelved) (out : Sunk) (status : ℕ) : Type 0 where
  pub all_asked : new.asked ≡ map name_of (files_of ask)
  pub all_brought : new.brought ≡ length (files_of ask)
  pub back : AreBack old.told new
  pub meaning : Meaning
  pub means : All (Means old.told meaning) (files_of ask)
  pub did : Does ask old.told meaning new.back out status
  pub all_read : status ≡ 0 → All IsSpent new.back
  pub shelf_sound : status ≡ 0 → new.faults ≡ old.faults
  pub sink_sound : status ≡ 0 → out.faults_after ≡ out.faults_before
  pub shelf_fault : status ≡ 5 → Rose old.faults new.faults
  pub sink_fault : status ≡ 6 → Rose out.faults_before out.faults_after
  pub untouched : files_of ask ≡ [] → new ≡ old

-- the bytes of a file are told, and are its text; feeds and logs are within their limits
abbrev pub IsWhole : Option Contents → Meaning → File → Type 0
IsWhole told m (feed_file name) = IsSomeAnd (told_bytes told name) (IsWithinLimits feed_limits)
IsWhole told m (log_file name) = IsSomeAnd (told_bytes told name) (λ bytes. IsTooLong LOG_LIMITS bytes → ⊥)
IsWhole told m file = IsSomeAnd (told_bytes told (name_of file)) (IsTextOf m file)

-- a run for what was asked ended so: memory was wanting before anything was asked for, or it stopped over a file, or it did its work.
-- Where the files are whole and no count rose, it did its work whole, or memory was wanting; an audit may find its log wrong
pub record IsRun (ask : Asked) (old new : Shelved) (out : Sunk) (status : ℕ) : Type 0 where
  pub ended : ((status ≡ 1) × IsFresh new × (out.after ≡ out.before)) ⊎ HasStopped (files_of ask) old new out status
      ⊎ HasWorked ask old new out status
  pub complete : (m : Meaning) → All (IsWhole old.told m) (files_of ask)
      → (Rose old.faults new.faults → ⊥) → (Rose out.faults_before out.faults_after → ⊥)
      → (status ≡ 0) ⊎ (status ≡ 1) ⊎ ((map fleet log : List ℕ) × (ask ≡ an_audit map fleet log) × (status ≡ 7))
