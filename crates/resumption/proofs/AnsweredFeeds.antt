-- What a session that goes on tells of its feeds, and of what was taken of them.
use Rattle.resumption.proofs.Common.{◌≡◌, ◌⊎◌, inl, inr, ℕ, ◌≤◌, ◌||◌, ◌&&◌, not, Bool, true, false, List, [], ◌∷◌, ◌++◌, Option, IfSome, refl, sym, ap, subst, arith, leb-true, nat_le, list_any, and_parts, not-true, Reads, Ran, Reads-none, ended_whole, is_whole, replay, State, has_ended, is_actor, Actor, Feed, Ending, Whole, Entry, IsWithinLimits, limits_of, Recorded, IsFeedAfter, IsResumed, form_after, still_feeds, FeedRun, HasNotServed, Sunk, NoneWanting, none-status, whole-status, HasAnsweredOn, IsUnheard, room_of, still_gives, ending-whole}
use Rattle.model_laws.proofs.Histories.{replay-append}
use Rattle.model_laws.proofs.history_laws.Others.{in_range}
use Rattle.line_text.specs.Lines.{ended_after, rest_after}

-- who has not ended has not ended whole
not-whole : (actor : Actor) (ended : List (Actor × Ending)) → list_any (λ (end : Actor × Ending). is_actor end.0 actor) ended ≡ false
    → list_any (λ (end : Actor × Ending). is_actor end.0 actor && is_whole end.1) ended ≡ false
not-whole actor [] none = refl
not-whole actor (end ∷ ended) none =
    by (is_actor end.0 actor) (is_whole end.1) (list_any (λ (e : Actor × Ending). is_actor e.0 actor) ended)
    (list_any (λ (e : Actor × Ending). is_actor e.0 actor && is_whole e.1) ended) (not-whole actor ended) none
  where
    by : (a w rest whole : Bool) → (rest ≡ false → whole ≡ false) → (a || rest) ≡ false → ((a && w) || whole) ≡ false
    by true w rest whole further is = absurd (cc is)
    by false w rest whole further is = further is

-- a feed that still gives commands is one of the board's, and has not ended whole
gives-parts : (start : State) (feeds : ℕ) (before : List Entry) (feed : ℕ) → still_feeds start feeds before feed ≡ true
    → (feed ≤ feeds) × (ended_whole (replay start before) (Feed feed) ≡ false)
gives-parts start feeds before feed gives =
    let (there, lives) = and_parts (nat_le feed feeds) (not (has_ended (replay start before) (Feed feed))) gives in
    (leb-true feed feeds there, not-whole (Feed feed) (replay start before).ended (not-true (has_ended (replay start before) (Feed feed)) lives))

-- nothing is within the limits
pub none-within : (lines : ℕ) → IsWithinLimits (limits_of lines) []
unfolding ended_after rest_after
none-within lines = record { few_bytes = omega arith; few_lines = omega arith }

module _ (board : Recorded) (riders drivers : FeedRun) (ran : Ran) (out : Sunk) where
  abbrev run_of : ℕ → FeedRun → List ℕ → List Entry → Type 0
  run_of feed run taken more = IsFeedAfter (form_after board.start feed board.history) feed (still_gives board feed) run ran taken more

  -- a session that went on
  module _ (resumed : IsResumed board riders drivers ran out.before out.after) where
    -- a feed that still gave commands ended whole in a whole session
    feed-whole : (feed : ℕ) (run : FeedRun) (taken : List ℕ) (after : run_of feed run taken resumed.more) → 1 ≤ feed → NoneWanting ran
        → (gives : still_gives board feed ≡ true) → (after.going gives).ending ≡ Whole
    feed-whole feed run taken after one none gives =
        let (there, lives) = gives-parts board.start board.feeds board.history feed gives in
        let is = after.going gives in
        let all = (resumed.history.finished none.memory none.read).feeds_whole in
        let whole : ended_whole (replay board.start (board.history ++ resumed.more)) (Feed feed) ≡ true =
        in_range (λ f. ended_whole (replay board.start (board.history ++ resumed.more)) (Feed f)) 1 board.feeds feed all one (omega (arith, there)) in
        ending-whole feed (replay board.start board.history) resumed.more is.answers is.ending lives
        (subst (λ (s : State). ended_whole s (Feed feed) ≡ true) (replay-append board.start board.history resumed.more) whole) is.part is.fed

    feed-within : (feed : ℕ) (run : FeedRun) (taken : List ℕ) (after : run_of feed run taken resumed.more) → 1 ≤ feed → NoneWanting ran
        → (gives : Bool) → still_gives board feed ≡ gives → IsWithinLimits (room_of board feed) taken
    feed-within feed run taken after one none true gives = ((after.going gives).whole (feed-whole feed run taken after one none gives)).0.within
    feed-within feed run taken after one none false gives =
        subst (IsWithinLimits (room_of board feed)) (sym (after.over gives).0) (none-within (form_after board.start feed board.history).lines)

    has-answered : HasAnsweredOn board riders drivers ran out
    has-answered = record {
      resumed = resumed;
      all_of_riders = λ zero. feed-whole 1 riders resumed.riders_taken resumed.of_riders (omega arith) (whole-status ran zero);
      all_of_drivers = λ zero. feed-whole 2 drivers resumed.drivers_taken resumed.of_drivers (omega arith) (whole-status ran zero);
      within = λ zero. (
        feed-within 1 riders resumed.riders_taken resumed.of_riders (omega arith) (whole-status ran zero) (still_gives board 1) refl,
        feed-within 2 drivers resumed.drivers_taken resumed.of_drivers (omega arith) (whole-status ran zero) (still_gives board 2) refl,
      );
    }

  abbrev pub Answered : Type 0
  Answered = HasNotServed riders drivers ran out.before out.after ⊎ HasAnsweredOn board riders drivers ran out

  pub answered-of : HasNotServed riders drivers ran out.before out.after ⊎ IsResumed board riders drivers ran out.before out.after → Answered
  answered-of (inl not) = inl not
  answered-of (inr resumed) = inr (has-answered resumed)

  -- what was taken of a feed, and that nothing is left of it where all was well and it still gave commands
  pub record Taken (feed : ℕ) (run : FeedRun) : Type 0 where
    pub bytes : List ℕ
    pub reads : Reads run.bytes run.left bytes
    pub to_end : NoneWanting ran → still_gives board feed ≡ true → IfSome run.left (λ rest. rest ≡ [])

  none-taken : (feed : ℕ) (run : FeedRun) → run.left ≡ run.bytes → ran.no_memory ≡ true → Taken feed run
  none-taken feed run same wanting = record {
    bytes = [];
    reads = subst (λ (o : Option (List ℕ)). Reads run.bytes o []) (sym same) (Reads-none run.bytes);
    to_end = λ none gives. absurd (cc (wanting, none.memory));
  }

  some-taken : (feed : ℕ) (run : FeedRun) (taken : List ℕ) (more : List Entry) (after : run_of feed run taken more)
      → (NoneWanting ran → (gives : still_gives board feed ≡ true) → (after.going gives).ending ≡ Whole)
      → (gives : Bool) → still_gives board feed ≡ gives → Taken feed run
  some-taken feed run taken more after whole true gives = record {
    bytes = taken;
    reads = (after.going gives).reads;
    to_end = λ none gives. ((after.going gives).whole (whole none gives)).0.to_end;
  }
  some-taken feed run taken more after whole false over = record {
    bytes = [];
    reads = subst (λ (o : Option (List ℕ)). Reads run.bytes o []) (sym (after.over over).1.nothing_read) (Reads-none run.bytes);
    to_end = λ none gives. absurd (cc (over, gives));
  }

  pub riders-taken : Answered → Taken 1 riders
  riders-taken (inl not) = none-taken 1 riders not.nothing_read_of_riders (ap (λ (r : Ran). r.no_memory) not.ran_is)
  riders-taken (inr has) =
      some-taken 1 riders has.resumed.riders_taken has.resumed.more has.resumed.of_riders (λ none. has.all_of_riders (none-status ran none))
      (still_gives board 1) refl

  pub drivers-taken : Answered → Taken 2 drivers
  drivers-taken (inl not) = none-taken 2 drivers not.nothing_read_of_drivers (ap (λ (r : Ran). r.no_memory) not.ran_is)
  drivers-taken (inr has) =
      some-taken 2 drivers has.resumed.drivers_taken has.resumed.more has.resumed.of_drivers (λ none. has.all_of_drivers (none-status ran none))
      (still_gives board 2) refl

  -- a feed that gives no command more is not read
  pub riders-over : Answered → (ran.source_failed ≡ false → riders.faults_after ≡ riders.faults_before) → still_gives board 1 ≡ false → IsUnheard riders
  riders-over (inl not) sound over = record { nothing_read = not.nothing_read_of_riders; no_fault = sound (ap (λ (r : Ran). r.source_failed) not.ran_is) }
  riders-over (inr has) sound over =
      let after = (has.resumed.of_riders.over over).1 in
      record { nothing_read = after.nothing_read; no_fault = after.no_fault }

  pub drivers-over : Answered → (ran.source_failed ≡ false → drivers.faults_after ≡ drivers.faults_before) → still_gives board 2 ≡ false → IsUnheard drivers
  drivers-over (inl not) sound over = record { nothing_read = not.nothing_read_of_drivers; no_fault = sound (ap (λ (r : Ran). r.source_failed) not.ran_is) }
  drivers-over (inr has) sound over =
      let after = (has.resumed.of_drivers.over over).1 in
      record { nothing_read = after.nothing_read; no_fault = after.no_fault }
