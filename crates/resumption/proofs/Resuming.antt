-- How a resumption ends, by what was done over its texts.
use Rattle.resumption.proofs.Common.{All, StopsReading, left-of, ◌≡◌, ◌⊎◌, inl, inr, ℕ, List, [], ◌∷◌, ◌++◌, Option, Ok, IfSome, refl, sym, ap, subst, ◌∙◌, arith, append_assoc, All-append, Reads, Contents, GivenBack, Rose, Restored, Standing, HaveFewCommands, FeedRun, GoingOn, resumption_files, File, feed_file, fleet_file, log_file, map_file, Meaning, Means, said_of, start_of, status_of, HasStopped, IsBackOf, IsLeftOf, IsSpent, Shelved, Sunk, told_bytes, HasGoneOn, HasRefusedLog, IsResumption, files_to_log, Says, AreBytesOf}
use Rattle.model_laws.proofs.plain.Each.{all_of_none, all_of_one, all_of_two}
use Rattle.dispatcher.specs.inner.Readings.{AreRead}
use Rattle.dispatcher.specs.declared.stop.Stop.{Stop}
use Rattle.dispatcher.proofs.Reading.{back-more, read-more}
use Rattle.dispatcher.proofs.Bringing.{misses-first}
use Rattle.dispatcher.proofs.Running.{any-text, missed}
use Rattle.resumption.specs.inner.Goings.{GoesOnOver, HandsBothOn}
use Rattle.resumption.specs.inner.Logs.{HandsLogBack}
use Rattle.resumption.specs.inner.Steps.{RefusesLog, ResumesOver}
use Rattle.resumption.proofs.Endings.{resumption-of}
use Rattle.resumption.proofs.LogFaults.{told-fault, told-five}

-- it stopped at the map or at the fleet file
pub stopped-resumption : (asked : GoingOn) (old new : Shelved) (out : Sunk) (status : ℕ) (stop : Stop)
    → ((later : List File) → StopsReading (map_file asked.map ∷ fleet_file asked.fleet ∷ later) stop old new)
    → Says out status (status_of stop) (said_of stop) → IsResumption asked old new out status
stopped-resumption asked old new out status stop stops says = resumption-of asked old new out status
    (inr (inl (stop, stops (log_file asked.log ∷ feed_file asked.riders ∷ feed_file asked.drivers ∷ []), says)))

-- what was left of a source that was given back, and that nothing was
left-of-back : (file : Option (List ℕ)) (source : GivenBack) (log : FeedRun) (taken : List ℕ) → IsBackOf file source log → Reads log.bytes log.left taken
    → IsLeftOf file source taken
left-of-back file source log taken back reads =
    left-of file log.bytes source taken back.bytes_are (subst (λ (s : GivenBack). Reads log.bytes s.left taken) (sym back.back) reads)

spent-of : (file : Option (List ℕ)) (source : GivenBack) (log : FeedRun) → IsBackOf file source log → log.faults_after ≡ log.faults_before
    → IfSome log.left (λ rest. rest ≡ []) → IsSpent source
spent-of file source log back same end = subst IsSpent (sym back.back) (record { no_fault = same ∙ back.fresh; to_end = end })

-- the texts were read
module _ (asked : GoingOn) (m : Meaning) (old mid : Shelved) (read : AreRead (map_file asked.map ∷ fleet_file asked.fleet ∷ []) m old mid) where
  abbrev texts : List File
  texts = map_file asked.map ∷ fleet_file asked.fleet ∷ []

  abbrev feeds : List File
  feeds = feed_file asked.riders ∷ feed_file asked.drivers ∷ []

  -- and the log gave no board to go on from
  has-refused : (new : Shelved) (out : Sunk) (status : ℕ) → RefusesLog m asked.log mid new out status → HasRefusedLog asked old new out status
  has-refused new out status refuses =
      let log = refuses.log in
      let (taken, reads) = log.reads.taken in
      record {
        none_further = log.adds.asked ∙ ap (λ l. l ++ asked.log ∷ []) read.asked;
        all_brought = omega (arith, log.adds.counted, read.brought);
        back = back-more texts m old mid new read (asked.log ∷ []) (log.source ∷ []) log.adds
            ((taken, left-of-back (told_bytes mid.told asked.log) log.source log.log taken log.of_file reads), tt);
        meaning = m;
        means = All-append (Means old.told m) texts (log_file asked.log ∷ []) read.means (all_of_one (Means old.told m) (log_file asked.log) (any-text _));
        over = record {
          feed = log.log;
          earlier = mid.back;
          back_is = log.adds.kept ∙ ap (λ s. mid.back ++ s ∷ []) log.of_file.back;
          bytes_are = subst (λ (t : Option Contents). AreBytesOf (told_bytes t asked.log) log.log.bytes) read.told log.of_file.bytes_are;
          fresh = log.of_file.fresh;
        };
        found = refuses.found;
        reads = log.reads;
        said = refuses.said;
        shelf_sound = λ other. log.sound (λ fault. other (told-fault out status refuses.found refuses.said fault)) ∙ read.faults;
        shelf_fault = λ five. subst (λ (k : ℕ). Rose k new.faults) read.faults (log.fault (told-five out status refuses.found refuses.said five));
      }

  -- or it gave a board
  module _ (restored : Restored) (next : Shelved) (log : HandsLogBack (start_of m) asked.log mid next (Ok (Standing restored)))
      (few : HaveFewCommands restored.board.feeds restored.board.history) where
    log-spent : IsSpent log.source
    log-spent = spent-of (told_bytes mid.told asked.log) log.source log.log log.of_file (log.reads.faults.stays refl) (log.reads.to_end restored refl)

    three-read : AreRead (files_to_log asked) m old next
    three-read =
        let (taken, reads) = log.reads.taken in
        read-more texts m old mid next read (log_file asked.log ∷ []) (log.source ∷ []) log.adds
        ((taken, left-of-back (told_bytes mid.told asked.log) log.source log.log taken log.of_file reads), tt) refl
        (all_of_one IsSpent log.source log-spent) (log.sound (λ fault. absurd (cc fault)))
        (all_of_one (Means old.told m) (log_file asked.log) (any-text _))

    -- and both feeds were brought
    has-gone : (new : Shelved) (out : Sunk) (status : ℕ) → HandsBothOn restored.board asked.riders asked.drivers next new out status
        → HasGoneOn asked old new out status
    has-gone new out status both =
        record {
          all_asked = both.adds.asked ∙ ap (λ l. l ++ asked.riders ∷ asked.drivers ∷ []) three-read.asked;
          all_brought = omega (arith, both.adds.counted, three-read.brought);
          back = back-more (files_to_log asked) m old next new three-read (asked.riders ∷ asked.drivers ∷ []) (both.first_source ∷ both.second_source ∷ [])
              both.adds both.left;
          meaning = m;
          means = All-append (Means old.told m) (files_to_log asked) feeds three-read.means
              (all_of_two (Means old.told m) (feed_file asked.riders) (feed_file asked.drivers) (any-text _) (any-text _));
          drivers = record {
            feed = both.second;
            earlier = next.back ++ both.first_source ∷ [];
            back_is = both.adds.kept ∙ sym (append_assoc next.back (both.first_source ∷ []) (both.second_source ∷ []))
                ∙ ap (λ s. (next.back ++ both.first_source ∷ []) ++ s ∷ []) both.of_second.back;
            bytes_are = subst (λ (t : Option Contents). AreBytesOf (told_bytes t asked.drivers) both.second.bytes) three-read.told both.of_second.bytes_are;
            fresh = both.of_second.fresh;
          };
          riders = record {
            feed = both.first;
            earlier = next.back;
            back_is = ap (λ s. next.back ++ s ∷ []) both.of_first.back;
            bytes_are = subst (λ (t : Option Contents). AreBytesOf (told_bytes t asked.riders) both.first.bytes) three-read.told both.of_first.bytes_are;
            fresh = both.of_first.fresh;
          };
          log = record {
            feed = log.log;
            earlier = mid.back;
            back_is = log.adds.kept ∙ ap (λ s. mid.back ++ s ∷ []) log.of_file.back;
            bytes_are = subst (λ (t : Option Contents). AreBytesOf (told_bytes t asked.log) log.log.bytes) read.told log.of_file.bytes_are;
            fresh = log.of_file.fresh;
          };
          restored = restored;
          reads = log.reads;
          few = few;
          goes_on = both.goes_on;
          log_spent = subst (λ (l : List GivenBack). All IsSpent l) (sym log.adds.kept)
              (All-append IsSpent mid.back (log.source ∷ []) read.spent (all_of_one IsSpent log.source log-spent));
          riders_spent = λ zero gives. subst IsSpent both.of_first.back (both.first_spent zero gives);
          drivers_spent = λ zero gives. subst IsSpent both.of_second.back (both.second_spent zero gives);
          shelf_sound = λ zero. both.shelf_sound zero ∙ three-read.faults;
          sink_sound = both.sink_sound;
          shelf_fault = λ five. subst (λ (k : ℕ). Rose k new.faults) three-read.faults (both.shelf_fault five);
          sink_fault = both.sink_fault;
        }

    feeds-over : (new : Shelved) (out : Sunk) (status : ℕ) → GoesOnOver restored.board asked.riders asked.drivers next new out status
        → HasStopped (resumption_files asked) old new out status ⊎ HasGoneOn asked old new out status
    feeds-over new out status (inl none) =
        inl (missed (files_to_log asked) m old next new out status three-read [] (feed_file asked.riders) (feed_file asked.drivers ∷ [])
        (all_of_none (Means old.told m)) (λ sources. inr refl) none)
    feeds-over new out status (inr (inl one)) =
        inl (missed (files_to_log asked) m old next new out status three-read (feed_file asked.riders ∷ []) (feed_file asked.drivers) []
        (all_of_one (Means old.told m) (feed_file asked.riders) (any-text _)) (λ sources. inr refl) one)
    feeds-over new out status (inr (inr both)) = inr (has-gone new out status both)

  ends-over : (new : Shelved) (out : Sunk) (status : ℕ) → ResumesOver m asked.log asked.riders asked.drivers mid new out status
      → HasStopped (resumption_files asked) old new out status ⊎ HasRefusedLog asked old new out status ⊎ HasGoneOn asked old new out status
  ends-over new out status (inl misses) =
      inl (missed texts m old mid new out status read [] (log_file asked.log) feeds (all_of_none (Means old.told m)) (λ sources. inr refl)
      (misses-first misses.in_vain misses.status_is misses.untouched))
  ends-over new out status (inr (inl refuses)) = inr (inl (has-refused new out status refuses))
  ends-over new out status (inr (inr stands)) = elim (feeds-over stands.restored stands.mid stands.log stands.few new out status stands.feeds) [
    | inl stopped ↦ inl stopped
    | inr gone ↦ inr (inr gone)
  ]

  pub resumption-over : (new : Shelved) (out : Sunk) (status : ℕ) → ResumesOver m asked.log asked.riders asked.drivers mid new out status
      → IsResumption asked old new out status
  resumption-over new out status over = resumption-of asked old new out status (inr (ends-over new out status over))
