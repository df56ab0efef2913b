-- Runs for what was asked: those that stopped, and those that did their work.
use Rattle.dispatcher.proofs.Common.{◌≡◌, ◌⊎◌, inl, inr, ℕ, List, [], ◌∷◌, ◌++◌, Option, Some, None, IfSome, refl, sym, ap, subst, ◌∙◌, arith, length-append, drop, All, length, map, append_assoc, map-append, All-append, all_of_none, all_of_one, all_of_two, Contents, GivenBack, Rose, Asked, a_service, File, feed_file, fleet_file, files_of, map_file, name_of, Meaning, Means, said_of, status_of, StopsAt, StopsReading, AreRead, Does, HasStopped, HasWorked, IsFresh, IsOver, IsRun, IsSpent, Says, Shelved, Sunk, told_bytes, FeedRun, Did, DoesWork, Work, Stop, ShelfFault, Hands, MissesAfter}
use Rattle.dispatcher.specs.inner.Sources.{ServesFeeds}
use Rattle.dispatcher.proofs.Bringing.{AreBytesOf}
use Rattle.dispatcher.proofs.Completing.{completes}
use Rattle.dispatcher.proofs.Reading.{asked-more, back-more}
use Rattle.dispatcher.proofs.Saying.{says-nothing}

-- a run, by how it ended
pub run-of : (ask : Asked) (old new : Shelved) (out : Sunk) (status : ℕ)
    → ((status ≡ 1) × IsFresh new × (out.after ≡ out.before)) ⊎ HasStopped (files_of ask) old new out status ⊎ HasWorked ask old new out status
    → IsRun ask old new out status
run-of ask old new out status ended = record { ended = ended; complete = λ m whole. completes ask old new out status ended m whole }

-- it stopped at one of its first files
pub stopped-run : (ask : Asked) (files more : List File) (old new : Shelved) (out : Sunk) (status : ℕ) (stop : Stop) → files_of ask ≡ files ++ more
    → ((later : List File) → StopsReading (files ++ later) stop old new) → Says out status (status_of stop) (said_of stop) → IsRun ask old new out status
stopped-run ask files more old new out status stop are stops says = run-of ask old new out status
    (inr (inl (stop, subst (λ (l : List File). StopsReading l stop old new) (sym are) (stops more), says)))

-- what a feed or a log means is not asked
pub any-text : (file : Option (List ℕ)) → IfSome file (λ text. Unit {0})
any-text None = tt
any-text (Some text) = tt

-- the first files of a run were read
module _ (files : List File) (m : Meaning) (old mid new : Shelved) (out : Sunk) (status : ℕ) (read : AreRead files m old mid) where
  -- and a name was not brought, after others
  pub missed : (others : List File) (file : File) (later : List File) → All (Means old.told m) others
      → ((sources : List GivenBack) → StopsAt old.told m file sources ShelfFault) → MissesAfter (map name_of others) (name_of file) mid new out status
      → HasStopped (files ++ (others ++ file ∷ later)) old new out status
  missed others file later means why misses =
      let names = map name_of others ++ name_of file ∷ [] in
      let names_are : names ≡ map name_of (others ++ file ∷ []) = sym (map-append name_of others (file ∷ [])) in
      let asked : new.asked ≡ map name_of (files ++ (others ++ file ∷ [])) =
      misses.adds.asked ∙ ap (λ l. l ++ names) read.asked ∙ ap (λ l. map name_of files ++ l) names_are ∙ sym (map-append name_of files (others ++ file ∷ [])) in (
        ShelfFault,
        record {
          earlier = files ++ others;
          file = file;
          later = later;
          files_are = sym (append_assoc files others (file ∷ later));
          asked_are = asked ∙ ap (map name_of) (sym (append_assoc files others (file ∷ [])));
          meaning = m;
          means = All-append (Means old.told m) files others read.means means;
          why = why (drop (length (files ++ others)) new.back);
          back = back-more files m old mid new read names misses.sources misses.adds misses.left;
          rose = λ is. subst (λ (k : ℕ). Rose k new.faults) read.faults misses.rose;
        },
        says-nothing out status misses.status_is misses.untouched,
      )

  -- and a work was done over the others
  worked-run : (ask : Asked) (more : List File) (sources : List GivenBack) → files_of ask ≡ files ++ more → All (Means old.told m) more
      → length sources ≡ length more → Hands (map name_of more) sources mid new out status → Does ask old.told m new.back out status
      → (files_of ask ≡ [] → new ≡ old) → IsRun ask old new out status
  worked-run ask more sources are means many hands did untouched = run-of ask old new out status (inr (inr (record {
    all_asked = asked-more files m old mid new read more (length sources) sources hands.adds ∙ ap (map name_of) (sym are);
    all_brought = omega (arith, hands.adds.counted, read.brought, many, length-append files more, ap (λ (l : List File). length l) are);
    back = back-more files m old mid new read (map name_of more) sources hands.adds hands.left;
    meaning = m;
    means = subst (λ (l : List File). All (Means old.told m) l) (sym are) (All-append (Means old.told m) files more read.means means);
    did = did;
    all_read = λ zero. subst (λ (l : List GivenBack). All IsSpent l) (sym hands.adds.kept)
        (All-append IsSpent mid.back sources read.spent (hands.spent zero));
    shelf_sound = λ zero. hands.shelf_sound zero ∙ read.faults;
    sink_sound = hands.sink_sound;
    shelf_fault = λ five. subst (λ (k : ℕ). Rose k new.faults) read.faults (hands.shelf_fault five);
    sink_fault = hands.sink_fault;
    untouched = untouched;
  })))

  pub work-run : (ask : Asked) (file : File) (work : Work) → files_of ask ≡ files ++ file ∷ []
      → ((sources : List GivenBack) → StopsAt old.told m file sources ShelfFault)
      → Means old.told m file → ((feed : IsOver old.told (name_of file) new.back) → Did work feed.feed out status → Does ask old.told m new.back out status)
      → DoesWork work (name_of file) mid new out status → IsRun ask old new out status
  work-run ask file work are why means does (inl misses) = run-of ask old new out status (inr (inl
      (subst (λ (l : List File). HasStopped l old new out status) (sym are) (missed [] file [] (all_of_none (Means old.told m)) why misses))))
  work-run ask file work are why means does (inr done) =
      worked-run ask (file ∷ []) (done.source ∷ []) are (all_of_one (Means old.told m) file means) refl done.hands
      (does (record {
        feed = done.feed;
        earlier = mid.back;
        back_is = done.hands.adds.kept ∙ ap (λ s. mid.back ++ s ∷ []) done.of_file.back;
        bytes_are = subst (λ (t : Option Contents). AreBytesOf (told_bytes t (name_of file)) done.feed.bytes) read.told done.of_file.bytes_are;
        fresh = done.of_file.fresh;
      }) done.did)
      (λ none. absurd (omega (arith, ap (λ (l : List File). length l) are ∙ length-append files (file ∷ []), ap (λ (l : List File). length l) none)))

-- the texts of a service were read
pub serve-run : (map_name fleet riders drivers : List ℕ) (workers desks : ℕ) (m : Meaning) (old mid new : Shelved) (out : Sunk) (status : ℕ)
    → AreRead (map_file map_name ∷ fleet_file fleet ∷ []) m old mid → ServesFeeds m desks riders drivers mid new out status
    → IsRun (a_service map_name fleet riders drivers workers desks) old new out status
serve-run map_name fleet riders drivers workers desks m old mid new out status read (inl none) =
    run-of (a_service map_name fleet riders drivers workers desks) old new out status (inr (inl
    (missed (map_file map_name ∷ fleet_file fleet ∷ []) m old mid new out status read [] (feed_file riders) (feed_file drivers ∷ [])
    (all_of_none (Means old.told m)) (λ sources. inr refl) none)))
serve-run map_name fleet riders drivers workers desks m old mid new out status read (inr (inl one)) =
    run-of (a_service map_name fleet riders drivers workers desks) old new out status (inr (inl
    (missed (map_file map_name ∷ fleet_file fleet ∷ []) m old mid new out status read (feed_file riders ∷ []) (feed_file drivers) []
    (all_of_one (Means old.told m) (feed_file riders) (any-text _)) (λ sources. inr refl) one)))
serve-run map_name fleet riders drivers workers desks m old mid new out status read (inr (inr both)) =
    let bytes_are = λ (name : List ℕ). λ (feed : FeedRun). λ (are : AreBytesOf (told_bytes mid.told name) feed.bytes).
    subst (λ (t : Option Contents). AreBytesOf (told_bytes t name) feed.bytes) read.told are in
    worked-run (map_file map_name ∷ fleet_file fleet ∷ []) m old mid new out status read
    (a_service map_name fleet riders drivers workers desks) (feed_file riders ∷ feed_file drivers ∷ [])
    (both.first_source ∷ both.second_source ∷ []) refl
    (all_of_two (Means old.told m) (feed_file riders) (feed_file drivers) (any-text _) (any-text _)) refl both.hands (
      record {
        feed = both.second;
        earlier = mid.back ++ both.first_source ∷ [];
        back_is = both.hands.adds.kept ∙ sym (append_assoc mid.back (both.first_source ∷ []) (both.second_source ∷ []))
            ∙ ap (λ s. (mid.back ++ both.first_source ∷ []) ++ s ∷ []) both.of_second.back;
        bytes_are = bytes_are drivers both.second both.of_second.bytes_are;
        fresh = both.of_second.fresh;
      },
      record {
        feed = both.first;
        earlier = mid.back;
        back_is = ap (λ s. mid.back ++ s ∷ []) both.of_first.back;
        bytes_are = bytes_are riders both.first both.of_first.bytes_are;
        fresh = both.of_first.fresh;
      },
      both.serves,
    ) (λ none. absurd (cc none))
