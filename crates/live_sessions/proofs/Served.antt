-- A session that was begun: all that its contract says, by what its actors left and its log says.
use Rattle.live_sessions.proofs.Common.{◌≡◌, ℕ, Bool, true, false, ◌||◌, ◌⊎◌, inl, inr, List, [], ◌++◌, take, drop, Option, Result, Ok, Err, sym, ap, subst, ◌∙◌, true≢false, IfOk, is_err, cases_Bool, or_parts, or_cases, Entry, IsLegal, HasText, entry_lines, head_line, text_of, Ran, Failed, IsReadWhole, IsTooLong, limits_of, IsStart, Recorded, knowledge, root_of, as_began, HasPut, OutputState, Scribed, Actors, Answers, Stage, bare, IsResumed, form_after, is_broken_off, still_feeds, FeedRun, HasServed, IsWrittenOut, IsClosed, IsReady, LeavesActors, board_of, is_cut_short, ran_of}
use Rattle.live_sessions.proofs.Sessions.{served, text-joined, written-out}
use Rattle.live_sessions.proofs.StageLemmas.{FeederOf, began, desks-whole, drivers-of, drivers-sink, feeder-sink, feeds-whole, goes_on, riders-of}

-- what is said of a session where either feed or a desk says it: it is said of no feed, or of one where no desk says it
of-no-feed : (riders drivers desks : Bool) → (riders || drivers) || (desks || false) ≡ false → (riders ≡ false) × (drivers ≡ false)
of-no-feed riders drivers desks none = or_parts riders drivers (or_parts (riders || drivers) (desks || false) none).0

of-a-feed : (riders drivers desks : Bool) → desks ≡ false → (riders || drivers) || (desks || false) ≡ true
    → (riders ≡ true) ⊎ (drivers ≡ true)
of-a-feed riders drivers desks silent some =
    elim (or_cases (riders || drivers) (desks || false) some) [
      | inl feed ↦ or_cases riders drivers feed
      | inr other ↦ absurd (cc (other, ap (λ b. b || false) silent))
    ]

-- what kept a session from running whole, by its parts
module _ (answers : Answers) (sink_failed broken_off : Bool) where
  abbrev session : Ran
  session = ran_of answers sink_failed broken_off

  -- memory was not wanting for any of the loops, and nothing was broken off before them
  pub record NoneWanted : Type 0 where
    pub riders : answers.riders.no_memory ≡ false
    pub drivers : answers.drivers.no_memory ≡ false
    pub desks : answers.desks.no_memory ≡ false
    pub sound : broken_off ≡ false

  pub none-wanted : session.no_memory ≡ false → NoneWanted
  none-wanted memory =
      let (feeds, others) = or_parts (answers.riders.no_memory || answers.drivers.no_memory)
      (answers.desks.no_memory || (is_cut_short answers.scribed || broken_off)) memory in
      let (riders, drivers) = or_parts answers.riders.no_memory answers.drivers.no_memory feeds in
      let (desks, rest) = or_parts answers.desks.no_memory (is_cut_short answers.scribed || broken_off) others in
      record { riders = riders; drivers = drivers; desks = desks; sound = (or_parts (is_cut_short answers.scribed) broken_off rest).1 }

  -- where something was, memory is told to have been wanting
  pub broken-wanted : broken_off ≡ true → session.no_memory ≡ true
  broken-wanted broken = elim (cases_Bool session.no_memory) [
    | inl wanting ↦ wanting
    | inr memory ↦ absurd (true≢false (sym broken ∙ (none-wanted memory).sound))
  ]

  -- no source failed, and one did
  pub sources-sound : session.source_failed ≡ false → (answers.riders.source_failed ≡ false) × (answers.drivers.source_failed ≡ false)
  sources-sound = of-no-feed answers.riders.source_failed answers.drivers.source_failed answers.desks.source_failed

  pub source-failed : answers.desks.source_failed ≡ false → session.source_failed ≡ true
      → (answers.riders.source_failed ≡ true) ⊎ (answers.drivers.source_failed ≡ true)
  source-failed = of-a-feed answers.riders.source_failed answers.drivers.source_failed answers.desks.source_failed

  -- no feed was too long, and one was
  pub lengths-fit : session.too_long ≡ false → (answers.riders.too_long ≡ false) × (answers.drivers.too_long ≡ false)
  lengths-fit = of-no-feed answers.riders.too_long answers.drivers.too_long answers.desks.too_long

  pub length-passed : answers.desks.too_long ≡ false → session.too_long ≡ true
      → (answers.riders.too_long ≡ true) ⊎ (answers.drivers.too_long ≡ true)
  length-passed = of-a-feed answers.riders.too_long answers.drivers.too_long answers.desks.too_long

  -- the sink failed where the log says so
  pub sink-is : answers.riders.sink_failed ≡ false → answers.drivers.sink_failed ≡ false → answers.desks.sink_failed ≡ false
      → session.sink_failed ≡ sink_failed
  sink-is riders drivers desks = λ i. (riders i || drivers i) || (desks i || sink_failed)

module _ (log feeds desks : ℕ) (stage : Stage) (riders drivers : FeedRun) (head_failed : Bool) (first written now last : Option (List ℕ))
    (faults m n k : ℕ) (answers : Answers) (new : Actors) (ready : IsReady stage)
    (left : LeavesActors stage.board log riders drivers head_failed written now m n answers stage.actors new) (board : Recorded)
    (closed : IsClosed new board) (output : OutputState) where
  abbrev broken_off : Bool
  broken_off = is_broken_off (board_of stage).history

  abbrev ran : Ran
  ran = ran_of answers output.failed broken_off

  -- the whole text was logged
  pub logged-all : HasPut first written faults m (bare head_failed) (head_line log feeds desks)
      → ((earlier : Option (List ℕ)) (at count : ℕ) (text : List ℕ) → IfOk answers.scribed (λ (s : Scribed). s.entries ≡ count)
      → HasPut earlier now at n (bare (is_err answers.scribed)) text
      → HasPut earlier last at k output (text ++ entry_lines log (drop count board.history)))
      → HasPut first last faults k output (text_of log feeds desks board.history)
  logged-all head rest =
      let s = left.scribe in
      subst (λ (t : List ℕ). HasPut first last faults k output t)
      (text-joined log feeds desks s.count (knowledge new.scribe).seen board.history closed.seen s.within)
      (rest first faults s.count (head_line log feeds desks ++ entry_lines log (take s.count (knowledge new.scribe).seen))
      (entries_are answers.scribed s.answered) (s.some.told first faults (head_line log feeds desks) head))
    where
      entries_are : (r : Result Scribed Failed) → IfOk r (λ (s : Scribed). (s.entries ≡ left.scribe.count) × (head_failed ≡ false))
          → IfOk r (λ (s : Scribed). s.entries ≡ left.scribe.count)
      entries_are (Ok s) h = h.0
      entries_are (Err f) h = tt

  -- the history goes on from that of the board and answers both feeds, and the log is its text
  pub is-resumed : (board_of stage).feeds ≡ feeds → (board_of stage).desks ≡ desks → (board_of stage).start.settings.log ≡ log
      → (output.failed ≡ false → output.page ≡ []) → HasPut first last faults k output (text_of log feeds desks board.history)
      → IsResumed (board_of stage) riders drivers ran first last
  is-resumed feeds_are desks_are log_is nothing_left has = record {
    more = more;
    history = subst (HasServed old.start old.feeds old.desks ran) grown
        (served old.start old.feeds old.desks ran board.history begins legal text
        (λ memory. desks-whole log stage riders drivers head_failed written now m n answers new ready left board closed more grown
        (none memory).desks (none memory).sound)
        (λ memory read. feeds-whole log stage riders drivers head_failed written now m n answers new ready left board closed more grown
        ran of_riders of_drivers (none memory).riders (none memory).drivers (read_both read).0 (read_both read).1 (none memory).sound));
    riders_taken = of_riders.taken;
    drivers_taken = of_drivers.taken;
    of_riders = of_riders.is;
    of_drivers = of_drivers.is;
    too_long = λ long. by_feed (length-passed answers output.failed broken_off left.desks.first.only.length long);
    broken_off = broken-wanted answers output.failed broken_off;
    written = subst (IsWrittenOut ran first last) text_is
        (written-out ran first last faults k output (text_of log feeds desks board.history)
        (sink-is answers output.failed broken_off riders_sink drivers_sink left.desks.first.only.sink) nothing_left has);
  }
    where
      old : Recorded
      old = board_of stage

      more : List Entry
      more = (goes_on log stage riders drivers head_failed written now m n answers new ready left board closed).0

      grown : board.history ≡ old.history ++ more
      grown = (goes_on log stage riders drivers head_failed written now m n answers new ready left board closed).1

      none : ran.no_memory ≡ false → NoneWanted answers output.failed broken_off
      none = none-wanted answers output.failed broken_off

      of_riders : FeederOf log stage riders drivers head_failed written now m n answers new ready left board closed more grown
          1 riders answers.riders ran (still_feeds old.start old.feeds old.history 1)
      of_riders = riders-of log stage riders drivers head_failed written now m n answers new ready left board closed more grown ran
          (λ memory. (none memory).riders)

      of_drivers : FeederOf log stage riders drivers head_failed written now m n answers new ready left board closed more grown
          2 drivers answers.drivers ran (still_feeds old.start old.feeds old.history 2)
      of_drivers = drivers-of log stage riders drivers head_failed written now m n answers new ready left board closed more grown ran
          (λ memory. (none memory).drivers)

      riders_sink : answers.riders.sink_failed ≡ false
      riders_sink = feeder-sink left.feeds.of_riders

      drivers_sink : answers.drivers.sink_failed ≡ false
      drivers_sink = drivers-sink drivers answers.drivers stage.board stage.actors.feeds.drivers new.feeds.drivers left.feeds.of_drivers

      began_so : as_began board ≡ root_of (knowledge stage.actors.scribe)
      began_so = began log stage riders drivers head_failed written now m n answers new ready left board closed

      begins : IsStart old.start
      begins = subst (λ (r : Recorded). IsStart r.start) began_so closed.start

      legal : IsLegal old.feeds old.desks old.start board.history
      legal = subst (λ (r : Recorded). IsLegal r.feeds r.desks r.start board.history) began_so closed.legal

      text : HasText old.start.settings.log old.feeds old.desks board.history
      text = subst (λ (r : Recorded). HasText r.start.settings.log r.feeds r.desks board.history) began_so closed.text

      text_is : text_of log feeds desks board.history ≡ text_of old.start.settings.log old.feeds old.desks (old.history ++ more)
      text_is =
          ap (λ v. text_of v feeds desks board.history) (sym log_is) ∙ ap (λ f. text_of old.start.settings.log f desks board.history) (sym feeds_are)
          ∙ ap (λ d. text_of old.start.settings.log old.feeds d board.history) (sym desks_are)
          ∙ ap (text_of old.start.settings.log old.feeds old.desks) grown

      read_both : IsReadWhole ran → IsReadWhole answers.riders × IsReadWhole answers.drivers
      read_both (sound, fits) =
          let s = sources-sound answers output.failed broken_off sound in
          let f = lengths-fit answers output.failed broken_off fits in
          ((s.0, f.0), (s.1, f.1))

      by_feed : (answers.riders.too_long ≡ true) ⊎ (answers.drivers.too_long ≡ true) → IsTooLong (limits_of (form_after old.start 1 old.history).lines) of_riders.taken
          ⊎ IsTooLong (limits_of (form_after old.start 2 old.history).lines) of_drivers.taken
      by_feed (inl long) = inl (of_riders.too_long long)
      by_feed (inr long) = inr (of_drivers.too_long long)
