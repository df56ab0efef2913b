-- What a session keeps that went on and ran whole.
use Rattle.resumption.proofs.Common.{◌≡◌, ◌⊎◌, inl, inr, ℕ, true, List, ◌++◌, Option, Some, None, IfSome, refl, sym, ap, subst, ◌∙◌, arith, append-nil, filter_map, Contents, Ran, Command, Entry, Whole, command_of, fed_commands, State, fed_commands-append, StandsAt, Restored, IsFeedAfter, form_after, still_feeds, FeedRun, GoingOn, resumption_files, HasStopped, Shelved, Sunk, told_bytes, whole-status, HasGoneOn, HasRefusedLog, IsResumption, IsFresh, AreBytesOf}
use Rattle.command_lines.specs.Commands.{commands_of}
use Rattle.dispatcher.proofs.Mission.{answers-all, only-standing, seats-least, stopped-not-whole}
use Rattle.resumption.specs.Mission.{AnswersOn, GoesOnWell, ResumesWell, TellsEntries}
use Rattle.resumption.proofs.LogFaults.{told-zero}

-- the commands before, and then those of all bytes
joined : (file : Option (List ℕ)) (log : ℕ) (all before more : List Command) → all ≡ before ++ more → IfSome file (λ bytes. more ≡ commands_of log bytes)
    → IfSome file (λ bytes. all ≡ before ++ commands_of log bytes)
joined None log all before more is answers = tt
joined (Some bytes) log all before more is answers = is ∙ ap (λ l. before ++ l) answers

module _ (start : State) (feeds : ℕ) (before more : List Entry) (ran : Ran) where
  answers-on : (feed : ℕ) (file : Option (List ℕ)) (run : FeedRun) (taken : List ℕ) → AreBytesOf file run.bytes
      → (after : IsFeedAfter (form_after start feed before) feed (still_feeds start feeds before feed) run ran taken more)
      → ((gives : still_feeds start feeds before feed ≡ true) → (after.going gives).ending ≡ Whole)
      → AnswersOn start feeds before (before ++ more) feed file
  answers-on feed file run taken are after whole = record {
    still_gives = λ gives.
        joined file start.settings.log (fed_commands feed (before ++ more)) (fed_commands feed before) (fed_commands feed more)
        (fed_commands-append feed before more)
        (answers-all (form_after start feed before) file run taken (fed_commands feed more) are (after.going gives).reads ((after.going gives).whole (whole gives)).0);
    gives_no_more = λ over.
        fed_commands-append feed before more
        ∙ ap (λ l. fed_commands feed before ++ l) (ap (filter_map (λ (entry : Entry). command_of entry.event)) (after.over over).1.adds_none)
        ∙ append-nil (fed_commands feed before);
  }

-- what the log's bytes tell
tells : (start : State) (file : Option (List ℕ)) (log : FeedRun) (restored : Restored) → AreBytesOf file log.bytes
    → IfSome log.bytes (λ bytes. StandsAt start bytes restored)
    → IfSome file (TellsEntries start restored.board.feeds restored.board.desks restored.board.history)
tells start None log restored are stands = tt
tells start (Some bytes) log restored are stands =
    let at : StandsAt start bytes restored = subst (λ (o : Option (List ℕ)). IfSome o (λ b. StandsAt start b restored)) are stands in
    record {
      torn = at.torn;
      bytes_are = at.bytes_are ∙ ap (λ l. l ++ at.torn) at.log.text_is;
      no_lf = at.no_lf;
    }

module _ (asked : GoingOn) (old new : Shelved) (out : Sunk) (status : ℕ) where
  gone-well : HasGoneOn asked old new out status → ResumesWell asked old.told out status
  gone-well gone zero =
      let goes = gone.goes_on in
      let zero_ran = sym goes.status_is ∙ zero in
      let none = whole-status goes.ran zero_ran in
      let board = gone.restored.board in
      let start_is = (gone.reads.stands gone.restored refl).start_is in
      elim goes.answered [
        | inl not ↦ absurd (cc (ap (λ (r : Ran). r.no_memory) not.ran_is, none.memory))
        | inr has ↦
            let resumed = has.resumed in
            let history = board.history ++ resumed.more in (
              gone.meaning,
              gone.means,
              subst
                  (λ (s : State). GoesOnWell s (told_bytes old.told asked.log) (told_bytes old.told asked.riders) (told_bytes old.told asked.drivers) out)
                  start_is
                  (record {
                    feeds = board.feeds;
                    desks = board.desks;
                    before = board.history;
                    more = resumed.more;
                    history = history;
                    log_tells_before = tells board.start (told_bytes old.told asked.log) gone.log.feed gone.restored gone.log.bytes_are
                        (subst (λ (s : State). IfSome gone.log.feed.bytes (λ bytes. StandsAt s bytes gone.restored)) (sym start_is)
                        (gone.reads.answer (λ no. absurd (cc no)) (λ no. absurd (cc no))));
                    begins_with_before = refl;
                    logged = resumed.written.whole none.sink;
                    one_legal_history = resumed.history.legal;
                    riders_answered = answers-on board.start board.feeds board.history resumed.more goes.ran 1 (told_bytes old.told asked.riders)
                        gone.riders.feed resumed.riders_taken gone.riders.bytes_are resumed.of_riders (has.all_of_riders zero_ran);
                    drivers_answered = answers-on board.start board.feeds board.history resumed.more goes.ran 2 (told_bytes old.told asked.drivers)
                        gone.drivers.feed resumed.drivers_taken gone.drivers.bytes_are resumed.of_drivers (has.all_of_drivers zero_ran);
                    seated_at_least_cost = seats-least board.feeds board.desks board.start history resumed.history.legal;
                    only_standing_committed = only-standing board.feeds board.desks board.start history resumed.history.legal resumed.history.begins;
                    promises_kept = resumed.history.promises;
                    finished = resumed.history.finished none.memory none.read;
                  }),
            )
      ]

  ended-well : ((status ≡ 1) × IsFresh new × (out.after ≡ out.before)) ⊎ HasStopped (resumption_files asked) old new out status
      ⊎ HasRefusedLog asked old new out status ⊎ HasGoneOn asked old new out status → ResumesWell asked old.told out status
  ended-well (inl unread) zero = absurd (omega (arith, unread.0, zero))
  ended-well (inr (inl stopped)) zero = absurd (stopped-not-whole (resumption_files asked) old new out status stopped zero)
  ended-well (inr (inr (inl refused))) zero = absurd (told-zero out status refused.found refused.said zero)
  ended-well (inr (inr (inr gone))) zero = gone-well gone zero

  pub resumes-well : IsResumption asked old new out status → ResumesWell asked old.told out status
  resumes-well run = ended-well run.ended

-- where the words ask for it
pub resumed-some : (o : Option GoingOn) (asked : GoingOn) (told : Option Contents) (out : Sunk) (status : ℕ) → o ≡ Some asked
    → ResumesWell asked told out status → IfSome o (λ a. ResumesWell a told out status)
resumed-some o asked told out status is well = subst (λ (x : Option GoingOn). IfSome x (λ a. ResumesWell a told out status)) (sym is) well
