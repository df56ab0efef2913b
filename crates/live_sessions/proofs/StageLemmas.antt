-- A session from before its actors run to after they did.
use Rattle.live_sessions.proofs.Common.{◌≡◌, ◌≢◌, ℕ, ◌+◌, ◌≤◌, ◌&&◌, ◌||◌, inl, inr, Bool, true, false, not, List, [], ◌++◌, Option, Some, None, refl, sym, ap, subst, ◌∙◌, append_assoc, append-nil, true≢false, arith, IfSome, IsNone, IsSomeAnd, MatchOption, nat_le, or-true, cases_Bool, list_any-append, Feed, Entry, entries_of, IsLegal, IsNumbered, RoadMap, BatchCopy, State, has_ended, IsOneOrTwo, KeepsCount, Ran, IsReadWhole, IsTooLong, FeedForm, limits_of, IsLegal-parts, gives_up, has_whole_end, is_whole_end, Recorded, state_of, knowledge, Known, root_of, IsPartOf, one_if_some, as_began, root-stays, RunsFeed, Actors, Answers, Feeder, Stage, IsIdle, LeavesDesk, LeavesFeeder, IsFeedAfter, form_after, is_broken_off, still_feeds, FeedRun, IsClosed, IsDeskOf, IsEquipped, IsFeederOf, IsReady, IsFeedStart, LeavesActors, board_of, entries-append}
use Rattle.ride_model.specs.declared.command.Actor.TheVariants.{Desk as DeskNumbered}
use Rattle.ride_ports.proofs.Counts.{KeepsCount-none}
use Rattle.fleet_board.specs.declared.shared.SharedBoard.{SharedBoard}
use Rattle.live_sessions.specs.declared.desk_pairs.Desk.{Desk}
use Rattle.live_sessions.specs.declared.living.FeedStart.{FeedStart}
use Rattle.live_sessions.proofs.BrokenOff.{ended-whole, no-feed, none-broken}
use Rattle.live_sessions.proofs.DeskParts.{DeskWhole, desk-of, desk-over}
use Rattle.live_sessions.proofs.FeedParts.{feed-of, part-after}
use Rattle.live_sessions.proofs.Sessions.{first-or-second}
use Rattle.live_sessions.proofs.Starts.{own-desk, own-feed, told-of}

-- what is said of an option, at its value
pub at-some : {X : Type 0} (P : X → Type 0) (o : Option X) (x : X) → o ≡ Some x → IsSomeAnd o P → P x
at-some P o x is h = subst (λ p. IsSomeAnd p P) is h

-- what an actor is, by its pass, where there is one
pub second-ready : {X D : Type 0} (f : D → X) (o : Option X) (d : Option D) (A B : Type 0) (P : X → Type 0) (Q R : D → Type 0)
    → ((x : D) → B → P (f x) → Q x → R x)
    → MatchOption d (o ≡ None) (λ x. (o ≡ Some (f x)) × Q x) → MatchOption o A (λ p. B × P p) → MatchOption d A (λ x. B × R x)
second-ready f o None A B P Q R make is h = subst (λ p. MatchOption p A (λ x. B × P x)) is h
second-ready f o (Some x) A B P Q R make (is, q) h =
    let (b, p) = subst (λ p. MatchOption p A (λ y. B × P y)) is h in
    (b, make x b p q)

pub second-count : {X D : Type 0} (f : D → X) (o : Option X) (d : Option D) (Q : D → Type 0)
    → MatchOption d (o ≡ None) (λ x. (o ≡ Some (f x)) × Q x) → one_if_some o ≡ one_if_some d
second-count f o None Q is = ap one_if_some is
second-count f o (Some x) Q (is, q) = ap one_if_some is

-- what a desk is equipped with, by other names of it
pub equip : {roads map : RoadMap} {batch open_one : Option BatchCopy} {lives still : Bool} {desk : Desk} → IsEquipped roads batch lives desk
    → roads ≡ map → batch ≡ open_one → lives ≡ still → IsEquipped map open_one still desk
equip e maps batches alive = record { pricer_is = e.pricer_is ∙ maps; batch_is = e.batch_is ∙ batches; lives_is = e.lives_is ∙ alive }

-- a feed stands so whatever room the board has
pub of-bare : {board : Recorded} {feed : ℕ} {start : FeedStart} → IsFeedStart board feed start → IsFeedStart (record board { spare = 0 }) feed start
of-bare stands = record { lives_is = stands.lives_is; form_is = stands.form_is }

-- two, and one more for each other that there is
pub four : (a b c d e f : ℕ) → a ≡ 1 → b ≡ e → c ≡ 1 → d ≡ f → a + b + c + d ≡ 2 + e + f
four a b c d e f first second third last = omega arith

-- of a feed that does nothing no fault is counted
pub idle-faults : {run : FeedRun} {ran : Ran} → IsIdle run ran → KeepsCount ran.source_failed run.faults_before run.faults_after
idle-faults {run} {ran} idle =
    subst (λ b. KeepsCount b run.faults_before run.faults_after) (sym (ap (λ (r : Ran). r.source_failed) idle.ran_is))
    (subst (λ c. KeepsCount false run.faults_before c) (sym idle.no_fault) (KeepsCount-none run.faults_before))

-- a feed has nothing to do with the sink, and counts its source's faults
module _ {run : FeedRun} {ran : Ran} {shared : SharedBoard} {earlier later : Feeder}
    (leaves : LeavesFeeder shared run ran earlier later) where
  pub feeder-sink : ran.sink_failed ≡ false
  feeder-sink = elim (cases_Bool earlier.start.lives) [
    | inl lives ↦ (leaves.going lives).sink
    | inr ended ↦ ap (λ (r : Ran). r.sink_failed) (leaves.over ended).1.ran_is
  ]

  pub feeder-faults : KeepsCount ran.source_failed run.faults_before run.faults_after
  feeder-faults = elim (cases_Bool earlier.start.lives) [
    | inl lives ↦ (leaves.going lives).faults
    | inr ended ↦ idle-faults (leaves.over ended).1
  ]

-- the same of the feed of drivers, also where there is none
module _ (run : FeedRun) (ran : Ran) (shared : SharedBoard) where
  abbrev pub LeavesAny : Option Feeder → Option Feeder → Type 0
  LeavesAny o p = MatchOption o (IsNone p × IsIdle run ran) (λ (earlier : Feeder). IsSomeAnd p (LeavesFeeder shared run ran earlier))

  pub drivers-sink : (o p : Option Feeder) → LeavesAny o p → ran.sink_failed ≡ false
  drivers-sink None p (gone, idle) = ap (λ (r : Ran). r.sink_failed) idle.ran_is
  drivers-sink (Some earlier) None leaves = absurd leaves
  drivers-sink (Some earlier) (Some later) leaves = feeder-sink leaves

  pub drivers-faults : (o p : Option Feeder) → LeavesAny o p → KeepsCount ran.source_failed run.faults_before run.faults_after
  drivers-faults None p (gone, idle) = idle-faults idle
  drivers-faults (Some earlier) None leaves = absurd leaves
  drivers-faults (Some earlier) (Some later) leaves = feeder-faults leaves

module _ (log : ℕ) (stage : Stage) (riders drivers : FeedRun) (head_failed : Bool) (written now : Option (List ℕ))
    (faults m : ℕ) (answers : Answers) (new : Actors) (ready : IsReady stage)
    (left : LeavesActors stage.board log riders drivers head_failed written now faults m answers stage.actors new)
    (board : Recorded) (closed : IsClosed new board) where
  abbrev old : Recorded
  old = board_of stage

  -- the board began as the session's did
  pub began : as_began board ≡ root_of (knowledge stage.actors.scribe)
  began =
      sym (ap (λ (roots : List Recorded). root_of (record (knowledge new.scribe) { root = roots })) closed.root)
      ∙ root-stays (knowledge stage.actors.scribe) (knowledge new.scribe) left.scribe.none

  -- and its history goes on from that of the session's
  pub goes_on : (more : List Entry) × (board.history ≡ old.history ++ more)
  goes_on =
      let (between, seen) = left.scribe.none.sees.goes_on in
      let (rest, is) = closed.seen in
      (between ++ rest, sym is ∙ ap (λ (l : List Entry). l ++ rest) seen ∙ append_assoc old.history between rest)

  module _ (more : List Entry) (grown : board.history ≡ old.history ++ more) where
    -- a whole end before is one after, and so is one that was added
    ended-before : (n : ℕ) → has_whole_end (entries_of (Feed n) old.history) ≡ true → has_whole_end (entries_of (Feed n) board.history) ≡ true
    ended-before n whole =
        ap (λ (es : List Entry). has_whole_end (entries_of (Feed n) es)) grown
        ∙ ap has_whole_end (entries-append (Feed n) old.history more)
        ∙ list_any-append (λ (entry : Entry). is_whole_end entry.event) (entries_of (Feed n) old.history) (entries_of (Feed n) more)
        ∙ ap (λ b. b || has_whole_end (entries_of (Feed n) more)) whole

    ended-after : (n : ℕ) → has_whole_end (entries_of (Feed n) more) ≡ true → has_whole_end (entries_of (Feed n) board.history) ≡ true
    ended-after n whole =
        ap (λ (es : List Entry). has_whole_end (entries_of (Feed n) es)) grown
        ∙ ap has_whole_end (entries-append (Feed n) old.history more)
        ∙ list_any-append (λ (entry : Entry). is_whole_end entry.event) (entries_of (Feed n) old.history) (entries_of (Feed n) more)
        ∙ ap (λ b. has_whole_end (entries_of (Feed n) old.history) || b) whole
        ∙ or-true (has_whole_end (entries_of (Feed n) old.history))

    -- what a feed that lives, or does not, leaves of the history
    pub record FeederOf (n : ℕ) (run : FeedRun) (own session : Ran) (lives : Bool) : Type 0 where
      pub taken : List ℕ
      pub is : IsFeedAfter (form_after old.start n old.history) n lives run session taken more
      pub too_long : own.too_long ≡ true → IsTooLong (limits_of (form_after old.start n old.history).lines) taken
      pub ends_whole : own.no_memory ≡ false → IsReadWhole own → is_broken_off old.history ≡ false
          → n ≤ old.feeds → has_whole_end (entries_of (Feed n) board.history) ≡ true

    none-of : (n : ℕ) (run : FeedRun) (own session : Ran) → IsIdle run own → entries_of (Feed n) more ≡ []
        → (is_broken_off old.history ≡ false → n ≤ old.feeds → has_whole_end (entries_of (Feed n) board.history) ≡ true)
        → FeederOf n run own session false
    none-of n run own session idle adds_none ends = record {
      taken = [];
      is = record {
        going = λ lives. absurd (true≢false (sym lives));
        over = λ _. (refl, record { nothing_read = idle.nothing_read; no_fault = idle.no_fault; adds_none = adds_none });
      };
      too_long = λ long. absurd (true≢false (sym long ∙ ap (λ (r : Ran). r.too_long) idle.ran_is));
      ends_whole = λ memory read sound there. ends sound there;
    }

    feeder-of : (n : ℕ) (run : FeedRun) (own session : Ran) (earlier later : Feeder) → IsOneOrTwo n
        → IsFeederOf stage.board old n earlier → LeavesFeeder stage.board run own earlier later
        → IsPartOf board.history (Feed n) (knowledge later.pass) → (session.no_memory ≡ false → own.no_memory ≡ false)
        → FeederOf n run own session (not (has_ended (state_of old) (Feed n)))
    feeder-of n run own session earlier later fits its leaves part memory =
        subst (FeederOf n run own session) its.stands.lives_is (by_lives earlier.start.lives refl)
      where
        own_is : (knowledge earlier.pass).own ≡ entries_of (Feed n) old.history
        own_is = own-feed stage ready n earlier fits its

        part-on : IsPartOf (old.history ++ more) (Feed n) (knowledge later.pass)
        part-on = subst (λ (es : List Entry). IsPartOf es (Feed n) (knowledge later.pass)) grown part

        by_lives : (b : Bool) → earlier.start.lives ≡ b → FeederOf n run own session b
        by_lives true lives =
            let ran = leaves.going lives in
            let runs = subst (λ (form : FeedForm). RunsFeed form run.bytes run.left own (knowledge earlier.pass) (knowledge later.pass))
            its.stands.form_is ran.runs in
            let f = feed-of (form_after old.start n old.history) n run own session old.history more (knowledge earlier.pass) (knowledge later.pass) fits
            (ap (λ (k : Known). k.number) its.pass.0.1) own_is runs part-on ran.faults memory in
            record {
              taken = f.taken;
              is = record { going = λ _. f.is; over = λ ended. absurd (true≢false ended) };
              too_long = f.too_long;
              ends_whole = λ none read sound there. ended-after n (f.ends_whole none read);
            }
        by_lives false ended =
            let (same, idle) = leaves.over ended in
            none-of n run own session idle
            (part-after (Feed n) old.history more []
            (sym part-on.own_all ∙ ap (λ pass. (knowledge pass).own) same ∙ own_is ∙ sym (append-nil (entries_of (Feed n) old.history))))
            (λ sound there. ended-before n (ended-whole old.start old.history (Feed n) (started n) (ended-so (has_ended (state_of old) (Feed n)) (sym its.stands.lives_is ∙ ended)) sound))
          where
            ended-so : (b : Bool) → not b ≡ false → b ≡ true
            ended-so true is = refl
            ended-so false is = absurd (true≢false is)

            started : (k : ℕ) → has_ended old.start (Feed k) ≡ false
            started k = ap (λ (s : State). has_ended s (Feed k)) (told-of stage ready).start_fits.nothing_yet

    feeds_fit : IsOneOrTwo old.feeds
    feeds_fit = (told-of stage ready).text.feeds_number

    is_legal : IsLegal old.feeds old.desks old.start board.history
    is_legal = subst (λ (r : Recorded). IsLegal r.feeds r.desks r.start board.history) began closed.legal

    -- the feed of riders, and that of drivers, where there is one
    pub riders-of : (session : Ran) → (session.no_memory ≡ false → answers.riders.no_memory ≡ false)
        → FeederOf 1 riders answers.riders session (still_feeds old.start old.feeds old.history 1)
    riders-of session memory =
        subst (λ b. FeederOf 1 riders answers.riders session (b && not (has_ended (state_of old) (Feed 1)))) (sym (first old.feeds feeds_fit.0))
        (feeder-of 1 riders answers.riders session stage.actors.feeds.riders new.feeds.riders (omega arith, omega arith) ready.feed_1
        left.feeds.of_riders closed.feed_1 memory)
      where
        first : (n : ℕ) → 1 ≤ n → nat_le 1 n ≡ true
        first n some = grind arith

    pub drivers-of : (session : Ran) → (session.no_memory ≡ false → answers.drivers.no_memory ≡ false)
        → FeederOf 2 drivers answers.drivers session (still_feeds old.start old.feeds old.history 2)
    drivers-of session memory = by_feed stage.actors.feeds.drivers new.feeds.drivers ready.feed_2 left.feeds.of_drivers closed.feed_2
      where
        two : (n : ℕ) → n ≡ 2 → nat_le 2 n ≡ true
        two n is = ap (nat_le 2) is

        one : (n : ℕ) → n ≢ 2 → n ≤ 2 → nat_le 2 n ≡ false
        one n other most = grind arith

        none : old.feeds ≢ 2 → IsIdle drivers answers.drivers → FeederOf 2 drivers answers.drivers session (still_feeds old.start old.feeds old.history 2)
        none other idle =
            subst (λ b. FeederOf 2 drivers answers.drivers session (b && not (has_ended (state_of old) (Feed 2)))) (sym (one old.feeds other feeds_fit.1))
            (none-of 2 drivers answers.drivers session idle
            (no-feed old.feeds old.desks (state_of old) more 2
            (IsLegal-parts old.feeds old.desks old.start old.history more (subst (IsLegal old.feeds old.desks old.start) grown is_legal)).1
            (λ numbered. other (omega (arith, numbered.1, feeds_fit.1))))
            (λ sound there. absurd (other (omega (arith, there, feeds_fit.1)))))

        by_feed : (o p : Option Feeder)
            → MatchOption o (old.feeds ≢ 2) (λ (feeder : Feeder). (old.feeds ≡ 2) × IsFeederOf stage.board old 2 feeder)
            → MatchOption o (IsNone p × IsIdle drivers answers.drivers)
            (λ (earlier : Feeder). IsSomeAnd p (LeavesFeeder stage.board drivers answers.drivers earlier))
            → IfSome p (λ (feeder : Feeder). IsPartOf board.history (Feed 2) (knowledge feeder.pass))
            → FeederOf 2 drivers answers.drivers session (still_feeds old.start old.feeds old.history 2)
        by_feed None p other (gone, idle) part = none other idle
        by_feed (Some earlier) None (are_two, its) leaves part = absurd leaves
        by_feed (Some earlier) (Some later) (are_two, its) leaves part =
            subst (λ b. FeederOf 2 drivers answers.drivers session (b && not (has_ended (state_of old) (Feed 2)))) (sym (two old.feeds are_two))
            (feeder-of 2 drivers answers.drivers session earlier later (omega arith, omega arith) its leaves part memory)

    -- a desk's part, where memory was not wanting and nothing was broken off before
    desk-whole : (n : ℕ) (earlier later : Desk) → IsOneOrTwo n → IsDeskOf stage.board old n earlier
        → LeavesDesk stage.board answers.desks earlier later → IsPartOf board.history (DeskNumbered n) (knowledge later.pass)
        → answers.desks.no_memory ≡ false → is_broken_off old.history ≡ false → DeskWhole n board.history
    desk-whole n earlier later fits its leaves part memory sound = by_lives earlier.lives refl
      where
        own_is : (knowledge earlier.pass).own ≡ entries_of (DeskNumbered n) old.history
        own_is = own-desk stage ready n earlier fits its

        none_given_up : gives_up (entries_of (DeskNumbered n) old.history) ≡ false
        none_given_up = none-broken (DeskNumbered n) old.history sound

        ended-so : (b : Bool) → not b ≡ false → b ≡ true
        ended-so true is = refl
        ended-so false is = absurd (true≢false is)

        by_lives : (b : Bool) → earlier.lives ≡ b → DeskWhole n board.history
        by_lives true lives =
            desk-of n earlier.open_batch answers.desks old.history board.history (knowledge earlier.pass) (knowledge later.pass) own_is none_given_up
            (leaves.going lives) part memory
        by_lives false ended =
            desk-over n old.history board.history (knowledge later.pass) (ap (λ pass. (knowledge pass).own) (leaves.over ended) ∙ own_is) part
            (ended-whole old.start old.history (DeskNumbered n)
            (ap (λ (s : State). has_ended s (DeskNumbered n)) (told-of stage ready).start_fits.nothing_yet)
            (ended-so (has_ended (state_of old) (DeskNumbered n)) (sym its.equipped.lives_is ∙ ended)) sound) none_given_up

    pub desks-whole : answers.desks.no_memory ≡ false → is_broken_off old.history ≡ false → (desk : ℕ) → IsNumbered old.desks desk
        → DeskWhole desk board.history
    desks-whole memory sound desk (low, high) =
        first-or-second (λ n. n ≤ old.desks → DeskWhole n board.history) desk (λ _. one) two low (omega (arith, high, few)) high
      where
        few : old.desks ≤ 2
        few = (told-of stage ready).text.desks_number.1

        one : DeskWhole 1 board.history
        one = desk-whole 1 stage.actors.desks.first new.desks.first (omega arith, omega arith) ready.desk_1 left.desks.first closed.desk_1 memory sound

        two : 2 ≤ old.desks → DeskWhole 2 board.history
        two second = by_desk stage.actors.desks.second new.desks.second ready.desk_2 left.desks.second closed.desk_2
          where
            there : old.desks ≡ 2
            there = omega (arith, second, few)

            by_desk : (o p : Option Desk)
                → MatchOption o (old.desks ≢ 2) (λ (desk : Desk). (old.desks ≡ 2) × IsDeskOf stage.board old 2 desk)
                → MatchOption o (IsNone p) (λ (earlier : Desk). IsSomeAnd p (LeavesDesk stage.board answers.desks earlier))
                → IfSome p (λ (desk : Desk). IsPartOf board.history (DeskNumbered 2) (knowledge desk.pass)) → DeskWhole 2 board.history
            by_desk None p other ran part = absurd (other there)
            by_desk (Some earlier) None its ran part = absurd ran
            by_desk (Some earlier) (Some later) (are_two, its) ran part =
                desk-whole 2 earlier later (omega arith, omega arith) its ran part memory sound

    -- each feed has a whole end, where nothing kept it from that
    pub feeds-whole : (session : Ran) → (of_riders : FeederOf 1 riders answers.riders session (still_feeds old.start old.feeds old.history 1))
        → (of_drivers : FeederOf 2 drivers answers.drivers session (still_feeds old.start old.feeds old.history 2))
        → answers.riders.no_memory ≡ false → answers.drivers.no_memory ≡ false → IsReadWhole answers.riders → IsReadWhole answers.drivers
        → is_broken_off old.history ≡ false → (feed : ℕ) → IsNumbered old.feeds feed → has_whole_end (entries_of (Feed feed) board.history) ≡ true
    feeds-whole session of_riders of_drivers first second riders_read drivers_read sound feed (low, high) =
        first-or-second (λ n. n ≤ old.feeds → has_whole_end (entries_of (Feed n) board.history) ≡ true) feed
        (of_riders.ends_whole first riders_read sound) (of_drivers.ends_whole second drivers_read sound) low (omega (arith, high, feeds_fit.1)) high
