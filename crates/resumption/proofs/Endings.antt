-- Which statuses are left to a resumption of whole files without faults.
use Rattle.resumption.proofs.Common.{◌≡◌, ◌⊎◌, inl, inr, ℕ, Bool, true, false, List, [], ◌∷◌, Option, Some, Result, Ok, Err, IfSome, refl, subst, ◌∙◌, arith, All, All-head, All-tail, All-take, Contents, Rose, Ran, State, Entry, IsTooLong, IsWithinLimits, Reads, Recorded, limits_of, Restored, Restoration, Standing, No, AuditFault, NoMemory, ReadFault, TooLong, IsRestoration, HaveFewCommands, IsFeedAfter, form_after, FeedRun, GoingOn, resumption_files, feed_file, fleet_file, log_file, map_file, Means, start_of, HasStopped, AreBytesOf, Shelved, Sunk, told_bytes, long-status, ran-status, within-not-long, still_gives, EndsLog, ReadsLog, AreAllWhole, HasGoneOn, HasRefusedLog, HasRoom, IsResumption, None, IsSomeAnd, ap, IsFresh, feed_limits}
use Rattle.command_lines.specs.declared.forms.FeedForm.{FeedForm}
use Rattle.log_audit.specs.declared.limits.TheConstants.{LOG_LIMITS}
use Rattle.dispatcher.specs.Runs.{IsWhole}
use Rattle.dispatcher.proofs.Completing.{map-first, whole-stops}
use Rattle.resumption.proofs.AnsweredFeeds.{none-within}

-- the log and both feeds are whole
module _ (told : Option Contents) (asked : GoingOn) (whole : AreAllWhole told asked) where
  after_texts : All (IsWhole told whole.meaning) (log_file asked.log ∷ feed_file asked.riders ∷ feed_file asked.drivers ∷ [])
  after_texts =
      All-tail (IsWhole told whole.meaning) (fleet_file asked.fleet) (log_file asked.log ∷ feed_file asked.riders ∷ feed_file asked.drivers ∷ [])
      (All-tail (IsWhole told whole.meaning) (map_file asked.map)
      (fleet_file asked.fleet ∷ log_file asked.log ∷ feed_file asked.riders ∷ feed_file asked.drivers ∷ []) whole.files)

  feeds : All (IsWhole told whole.meaning) (feed_file asked.riders ∷ feed_file asked.drivers ∷ [])
  feeds = All-tail (IsWhole told whole.meaning) (log_file asked.log) (feed_file asked.riders ∷ feed_file asked.drivers ∷ []) after_texts

  pub log-whole : IsWhole told whole.meaning (log_file asked.log)
  log-whole = All-head (IsWhole told whole.meaning) (log_file asked.log) (feed_file asked.riders ∷ feed_file asked.drivers ∷ []) after_texts

  pub riders-whole : IsWhole told whole.meaning (feed_file asked.riders)
  riders-whole = All-head (IsWhole told whole.meaning) (feed_file asked.riders) (feed_file asked.drivers ∷ []) feeds

  pub drivers-whole : IsWhole told whole.meaning (feed_file asked.drivers)
  drivers-whole = All-head (IsWhole told whole.meaning) (feed_file asked.drivers) [] (All-tail (IsWhole told whole.meaning) (feed_file asked.riders) (feed_file asked.drivers ∷ []) feeds)

-- a log within its limits is not too long
restored-not-long : (start : State) (file : Option (List ℕ)) (log : FeedRun) (found : Result Restoration AuditFault)
    → IsSomeAnd file (λ bytes. IsTooLong LOG_LIMITS bytes → ⊥) → AreBytesOf file log.bytes → ReadsLog start log found → found ≡ Err TooLong → ⊥
restored-not-long start None log found whole are reads long = absurd whole
restored-not-long start (Some bytes) log found whole are reads long =
    whole (subst (λ (o : Option (List ℕ)). IfSome o (λ b. IsRestoration start b (Err TooLong))) are
    (subst (λ (r : Result Restoration AuditFault). IfSome log.bytes (λ b. IsRestoration start b r)) long
    (reads.answer (λ memory. absurd (cc (memory, long))) (λ fault. absurd (cc (fault, long)))))).0

-- the board that it gives back is that of its bytes
board-given : (start : State) (file : Option (List ℕ)) (log : FeedRun) (restored : Restored) → AreBytesOf file log.bytes
    → ReadsLog start log (Ok (Standing restored)) → IfSome file (λ b. IsRestoration start b (Ok (Standing restored)))
board-given start None log restored are reads = tt
board-given start (Some bytes) log restored are reads =
    subst (λ (o : Option (List ℕ)). IfSome o (λ b. IsRestoration start b (Ok (Standing restored)))) are
    (reads.answer (λ no. absurd (cc no)) (λ no. absurd (cc no)))

-- a feed that goes on has no too long bytes, within its limits
after-not-long : (file : Option (List ℕ)) (run : FeedRun) (ran : Ran) (form : FeedForm) (feed : ℕ) (taken : List ℕ) (more : List Entry) (gives : Bool)
    → IsSomeAnd file (IsWithinLimits feed_limits) → IfSome file (IsWithinLimits (limits_of form.lines)) → AreBytesOf file run.bytes
    → IsFeedAfter form feed gives run ran taken more → IsTooLong (limits_of form.lines) taken → ⊥
after-not-long None run ran form feed taken more gives whole room are after long = absurd whole
after-not-long (Some bytes) run ran form feed taken more true whole room are after long =
    within-not-long (limits_of form.lines) bytes taken run.left room
    (subst (λ (o : Option (List ℕ)). Reads o run.left taken) are (after.going refl).reads) long
after-not-long (Some bytes) run ran form feed taken more false whole room are after long =
    none-long (subst (IsTooLong (limits_of form.lines)) (after.over refl).0 long)
  where
    none-long : IsTooLong (limits_of form.lines) [] → ⊥
    none-long (inl many) = omega (arith, many, (none-within form.lines).few_bytes)
    none-long (inr many) = omega (arith, many, (none-within form.lines).few_lines)

module _ (asked : GoingOn) (old new : Shelved) (out : Sunk) (status : ℕ) (whole : AreAllWhole old.told asked) (no_shelf : Rose old.faults new.faults → ⊥)
    (no_sink : Rose out.faults_before out.faults_after → ⊥) where
  abbrev May : Type 0
  May = (status ≡ 0) ⊎ (status ≡ 1) ⊎ (status ≡ 7)

  -- a log that gave no board is wrong, or memory was wanting
  found-may : (found : Result Restoration AuditFault) → EndsLog found status out → (status ≡ 5 → ⊥) → (found ≡ Err TooLong → ⊥)
      → ((restored : Restored) → found ≡ Ok (Standing restored) → HaveFewCommands restored.board.feeds restored.board.history) → May
  found-may (Ok (Standing restored)) (many, told) no_source short few = absurd (many (few restored refl))
  found-may (Ok (No line why)) (inl (is, prefix, whole)) no_source short few = inr (inr is)
  found-may (Ok (No line why)) (inr (is, says)) no_source short few = inr (inl is)
  found-may (Err NoMemory) (is, says) no_source short few = inr (inl is)
  found-may (Err TooLong) told no_source short few = absurd (short refl)
  found-may (Err ReadFault) (is, says) no_source short few = absurd (no_source is)

  refused-may : HasRefusedLog asked old new out status → May
  refused-may refused =
      found-may refused.found refused.said (λ five. no_shelf (refused.shelf_fault five))
      (restored-not-long (start_of refused.meaning) (told_bytes old.told asked.log) refused.over.feed refused.found (log-whole old.told asked whole)
      refused.over.bytes_are refused.reads)
      (λ restored stands. (whole.room refused.meaning restored refused.means
      (board-given (start_of refused.meaning) (told_bytes old.told asked.log) refused.over.feed restored refused.over.bytes_are
      (subst (ReadsLog (start_of refused.meaning) refused.over.feed) stands refused.reads))).few)

  gone-may : HasGoneOn asked old new out status → May
  gone-may gone =
      let ran = gone.goes_on.ran in
      let is = gone.goes_on.status_is in
      elim (ran-status ran) [
        | inl zero ↦ inl (is ∙ zero)
        | inr (inl one) ↦ inr (inl (is ∙ one))
        | inr (inr (inl five)) ↦ absurd (no_shelf (gone.shelf_fault (is ∙ five)))
        | inr (inr (inr (inl six))) ↦ absurd (no_sink (gone.sink_fault (is ∙ six)))
        | inr (inr (inr (inr eight))) ↦ absurd (not-long (long-status ran eight).1)
      ]
    where
      board : Recorded
      board = gone.restored.board

      room : HasRoom old.told asked board
      room = whole.room gone.meaning gone.restored (All-take (Means old.told gone.meaning) 3 (resumption_files asked) gone.means)
          (board-given (start_of gone.meaning) (told_bytes old.told asked.log) gone.log.feed gone.restored gone.log.bytes_are gone.reads)

      not-long : gone.goes_on.ran.too_long ≡ true → ⊥
      not-long long = elim gone.goes_on.answered [
        | inl not ↦ absurd (cc (ap (λ (r : Ran). r.too_long) not.ran_is, long))
        | inr has ↦ elim (has.resumed.too_long long) [
          | inl many ↦ after-not-long (told_bytes old.told asked.riders) gone.riders.feed gone.goes_on.ran (form_after board.start 1 board.history) 1
              has.resumed.riders_taken has.resumed.more (still_gives board 1) (riders-whole old.told asked whole) room.of_riders gone.riders.bytes_are
              has.resumed.of_riders many
          | inr many ↦ after-not-long (told_bytes old.told asked.drivers) gone.drivers.feed gone.goes_on.ran (form_after board.start 2 board.history) 2
              has.resumed.drivers_taken has.resumed.more (still_gives board 2) (drivers-whole old.told asked whole) room.of_drivers gone.drivers.bytes_are
              has.resumed.of_drivers many
        ]
      ]

  pub completes : ((status ≡ 1) × IsFresh new × (out.after ≡ out.before)) ⊎ HasStopped (resumption_files asked) old new out status
      ⊎ HasRefusedLog asked old new out status ⊎ HasGoneOn asked old new out status → May
  completes (inl unread) = inr (inl unread.0)
  completes (inr (inl stopped)) =
      inr (inl (whole-stops (resumption_files asked) whole.meaning old new out status
      (map-first asked.map (fleet_file asked.fleet ∷ log_file asked.log ∷ feed_file asked.riders ∷ feed_file asked.drivers ∷ [])) stopped whole.files no_shelf))
  completes (inr (inr (inl refused))) = refused-may refused
  completes (inr (inr (inr gone))) = gone-may gone

-- a resumption, by how it ended
pub resumption-of : (asked : GoingOn) (old new : Shelved) (out : Sunk) (status : ℕ)
    → ((status ≡ 1) × IsFresh new × (out.after ≡ out.before)) ⊎ HasStopped (resumption_files asked) old new out status
    ⊎ HasRefusedLog asked old new out status ⊎ HasGoneOn asked old new out status → IsResumption asked old new out status
resumption-of asked old new out status ended =
    record { ended = ended; complete = λ whole no_shelf no_sink. completes asked old new out status whole no_shelf no_sink ended }
