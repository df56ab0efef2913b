-- Every legal history has a text.
use Rattle.model_laws.proofs.Common.{◌≡◌, ℕ, ◌+◌, ◌≤◌, ◌⊎◌, Bool, true, false, cond, inl, inr, List, [], ◌∷◌, length, refl, sym, ◌∙◌, ap, subst, arith, Option, Some, None, All, IsSome, IsSomeAnd, filter, AllByRecursion, eq-eqb, All-from_recursion, All-head, All-tail, sum_by-cons, Actor, Feed, Desk, Command, Request, Cancel, At, Done, On, Off, Clock, Ask, Bad, Entry, Event, Fed, Finish, Opened, Committed, Abandoned, entries_of, command_of, fed_commands, IsNumbered, CommitsBatch, IsLegalEvent, IsLegal, after_entry, BatchCopy, State, is_actor, open_batch_numbered, IsSpelled, IsOneOrTwo, IsSpelledActor, IsSpelledReply, IsNotedIfBad, IsSpelledEvent, HasLine, HasText, IsStart, is_fed, fed_total, IsFedSpelled, IsFedWithin}
use Rattle.std.specs.Prelude.{filter_map}
use Rattle.model_laws.proofs.plain.Numbers.{one_of_two}
use Rattle.model_laws.proofs.history_laws.Invariant.{Inv}
use Rattle.model_laws.proofs.history_laws.Leaving.{open_batch}
use Rattle.model_laws.proofs.history_laws.Entries.{start_inv, IsFineEvent, fed_in, event_goes}
use Rattle.model_laws.proofs.history_laws.Replies.{step_said}
use Rattle.model_laws.proofs.history_laws.BatchTexts.{opened_said, number_said, committed_said}

-- a command that has a text asks for a ride under an id that has one
fine_spelled : (log : ℕ) (event : Event) → IsFedSpelled log event → IsFineEvent IsSpelled event
fine_spelled log (Fed (Request id from to seats latest longest chairs) reply) h = h.0
fine_spelled log (Fed (Cancel id) reply) h = tt
fine_spelled log (Fed (At vehicle node time) reply) h = tt
fine_spelled log (Fed (Done vehicle) reply) h = tt
fine_spelled log (Fed (On vehicle) reply) h = tt
fine_spelled log (Fed (Off vehicle) reply) h = tt
fine_spelled log (Fed (Clock time) reply) h = tt
fine_spelled log (Fed Ask reply) h = tt
fine_spelled log (Fed (Bad line) reply) h = tt
fine_spelled log (Finish ending) h = tt
fine_spelled log (Opened batch time requests plans) h = tt
fine_spelled log (Committed batch cost seats prices pays outcomes) h = tt
fine_spelled log (Abandoned batch) h = tt

-- a number from 1 to 1 or 2
pub one_or_two : (most n : ℕ) → IsOneOrTwo most → IsNumbered most n → IsOneOrTwo n
one_or_two most n (some, few) (low, high) = (low, omega arith)

-- each event and its actor have a text
event_said : (feeds desks fed log : ℕ) (start s : State) (actor : Actor) (event : Event) → IsStart start
    → Inv desks fed IsSpelled start s
    → fed ≤ 2000000000 → IsOneOrTwo feeds → IsOneOrTwo desks → IsLegalEvent feeds desks s actor event → IsFedSpelled log event
    → IsSpelledActor actor × IsSpelledEvent log actor event
event_said feeds desks fed log start s (Feed feed) (Fed command reply) begins inv few feeds_in desks_in
    (numbered, not_ended, reply_is) spelled =
    let said = step_said desks fed start s command begins inv in (
      one_or_two feeds feed feeds_in numbered,
      (spelled, subst IsSpelledReply (sym reply_is) said.0, subst (IsNotedIfBad command) (sym reply_is) said.1),
    )
event_said feeds desks fed log start s (Feed feed) (Finish ending) begins inv few feeds_in desks_in (numbered, not_ended) spelled =
    (one_or_two feeds feed feeds_in numbered, tt)
event_said feeds desks fed log start s (Desk desk) (Finish ending) begins inv few feeds_in desks_in (numbered, not_ended, may) spelled =
    (one_or_two desks desk desks_in numbered, tt)
event_said feeds desks fed log start s (Desk desk) (Opened number time requests plans) begins inv few feeds_in desks_in
    (numbered, may, names) spelled =
    (one_or_two desks desk desks_in numbered, opened_said desks fed start s begins inv few desk number time requests plans may names)
event_said feeds desks fed log start s (Desk desk) (Committed number cost seats prices pays outcomes) begins inv few feeds_in desks_in legal
    spelled =
    by_batch (open_batch_numbered s desk number) refl legal
  where
    by_batch : (o : Option BatchCopy) → open_batch_numbered s desk number ≡ o
        → IsSomeAnd o (λ batch. CommitsBatch s batch cost seats prices pays outcomes)
        → IsSpelledActor (Desk desk) × IsSpelledEvent log (Desk desk) (Committed number cost seats prices pays outcomes)
    by_batch None is legal = absurd legal
    by_batch (Some batch) is legal =
        let at = open_batch s desk number batch is in
        let opened = inv.batches_fit batch at.there in
        let (cost_said, seats_said, prices_said, pays_said, outcomes_said)
        = committed_said desks fed start s begins inv few batch at.there cost seats prices pays outcomes legal in (
          one_or_two desks desk desks_in (subst (IsNumbered desks) at.desk_is opened.desk_in),
          (
            subst IsSpelled at.number_is (number_said desks fed start s begins inv few batch at.there),
            cost_said,
            seats_said,
            prices_said,
            pays_said,
            outcomes_said,
          ),
        )
event_said feeds desks fed log start s (Desk desk) (Abandoned number) begins inv few feeds_in desks_in legal spelled =
    by_batch (open_batch_numbered s desk number) refl legal
  where
    by_batch : (o : Option BatchCopy) → open_batch_numbered s desk number ≡ o → IsSome o
        → IsSpelledActor (Desk desk) × IsSpelledEvent log (Desk desk) (Abandoned number)
    by_batch None is legal = absurd (cc legal)
    by_batch (Some batch) is legal =
        let at = open_batch s desk number batch is in
        let opened = inv.batches_fit batch at.there in (
          one_or_two desks desk desks_in (subst (IsNumbered desks) at.desk_is opened.desk_in),
          subst IsSpelled at.number_is (number_said desks fed start s begins inv few batch at.there),
        )
event_said feeds desks fed log start s (Desk desk) (Fed command reply) begins inv few feeds_in desks_in legal spelled = absurd legal
event_said feeds desks fed log start s (Feed feed) (Opened number time requests plans) begins inv few feeds_in desks_in legal
    spelled = absurd legal
event_said feeds desks fed log start s (Feed feed) (Committed number cost seats prices pays outcomes) begins inv few feeds_in desks_in legal
    spelled = absurd legal
event_said feeds desks fed log start s (Feed feed) (Abandoned number) begins inv few feeds_in desks_in legal spelled = absurd legal

-- the lines of a history, entry by entry
lines_said : (feeds desks fed log : ℕ) (start s : State) (entries : List Entry) → IsStart start → Inv desks fed IsSpelled start s
    → fed + fed_total entries ≤ 2000000000 → IsOneOrTwo feeds → IsOneOrTwo desks → IsLegal feeds desks s entries
    → All (λ (entry : Entry). IsFedSpelled log entry.event) entries → AllByRecursion (HasLine log) entries
unfolding IsLegal
lines_said feeds desks fed log start s [] begins inv few feeds_in desks_in legal spelled = tt
lines_said feeds desks fed log start s (entry ∷ entries) begins inv few feeds_in desks_in (legal, rest) spelled =
    let first_spelled = All-head (λ (e : Entry). IsFedSpelled log e.event) entry entries spelled in
    let more = sum_by-cons (λ (e : Entry). fed_in e.event) entry entries in
    let (actor_said, event_is_said) = event_said feeds desks fed log start s entry.actor entry.event begins inv
    (omega arith) feeds_in desks_in legal first_spelled in
    let next = event_goes feeds desks fed IsSpelled start s entry.actor entry.event begins inv legal
    (fine_spelled log entry.event first_spelled) in (
      record { actor = actor_said; event = event_is_said },
      lines_said feeds desks (fed + fed_in entry.event) log start (after_entry s entry) entries begins next.inv
          (omega (arith, more, few)) feeds_in desks_in rest
          (All-tail (λ (e : Entry). IsFedSpelled log e.event) entry entries spelled),
    )

-- how many commands a feed gave
abbrev many : ℕ → List Entry → ℕ
many feed entries = length (fed_commands feed entries)

-- an entry takes none away
many-more : (feed : ℕ) (entry : Entry) (entries : List Entry) → many feed entries ≤ many feed (entry ∷ entries)
unfolding entries_of
many-more feed entry entries = by_tests (is_actor entry.actor (Feed feed)) (command_of entry.event) refl
  where
    by_tests : (b : Bool) (o : Option Command) → command_of entry.event ≡ o
        → length (filter_map (λ (e : Entry). command_of e.event) (filter (λ (e : Entry). is_actor e.actor (Feed feed)) entries))
        ≤ length (filter_map (λ (e : Entry). command_of e.event)
        (cond b (entry ∷ filter (λ (e : Entry). is_actor e.actor (Feed feed)) entries)
        (filter (λ (e : Entry). is_actor e.actor (Feed feed)) entries)))
    by_tests false o is = omega arith
    by_tests true None is = rw is (omega arith)
    by_tests true (Some command) is = rw is (omega arith)

-- a command of the feed adds one
many-fed : (feed : ℕ) (entry : Entry) (entries : List Entry) → is_actor entry.actor (Feed feed) ≡ true → is_fed entry.event ≡ true
    → many feed entries + 1 ≤ many feed (entry ∷ entries)
unfolding entries_of
many-fed feed entry entries of_feed fed =
    let (command, is) = commands entry.event fed in
    rw (of_feed, is) (omega arith)
  where
    commands : (event : Event) → is_fed event ≡ true → (command : Command) × (command_of event ≡ Some command)
    commands (Fed command reply) h = (command, refl)
    commands (Finish ending) h = absurd (cc h)
    commands (Opened batch time requests plans) h = absurd (cc h)
    commands (Committed batch cost seats prices pays outcomes) h = absurd (cc h)
    commands (Abandoned batch) h = absurd (cc h)

-- only feeds are fed
fed_by : (feeds desks : ℕ) (s : State) (actor : Actor) (event : Event) → IsLegalEvent feeds desks s actor event
    → is_fed event ≡ true
    → (feed : ℕ) × (actor ≡ Feed feed) × IsNumbered feeds feed
fed_by feeds desks s (Feed feed) (Fed command reply) (numbered, not_ended, reply_is) h = (feed, refl, numbered)
fed_by feeds desks s (Desk desk) (Fed command reply) legal h = absurd legal
fed_by feeds desks s actor (Finish ending) legal h = absurd (cc h)
fed_by feeds desks s actor (Opened batch time requests plans) legal h = absurd (cc h)
fed_by feeds desks s actor (Committed batch cost seats prices pays outcomes) legal h = absurd (cc h)
fed_by feeds desks s actor (Abandoned batch) legal h = absurd (cc h)

-- the commands of a legal history of at most two feeds are theirs
fed-le : (feeds desks : ℕ) (s : State) (entries : List Entry) → IsOneOrTwo feeds → IsLegal feeds desks s entries
    → fed_total entries ≤ many 1 entries + many 2 entries
unfolding IsLegal
fed-le feeds desks s [] feeds_in legal = omega arith
fed-le feeds desks s (entry ∷ entries) feeds_in (legal, rest) =
    let later = fed-le feeds desks (after_entry s entry) entries feeds_in rest in
    let more = sum_by-cons (λ (e : Entry). fed_in e.event) entry entries in
    let here = by_event (is_fed entry.event) refl legal in
    omega (arith, later, more, here)
  where
    of_feed : (feed k : ℕ) → entry.actor ≡ Feed feed → feed ≡ k → is_actor entry.actor (Feed k) ≡ true
    of_feed feed k is same = ap (λ a. is_actor a (Feed k)) is ∙ eq-eqb feed k same

    by_feed : (feed : ℕ) → entry.actor ≡ Feed feed → is_fed entry.event ≡ true → (feed ≡ 1) ⊎ (feed ≡ 2)
        → 1 + (many 1 entries + many 2 entries) ≤ many 1 (entry ∷ entries) + many 2 (entry ∷ entries)
    by_feed feed is fed (inl same) = omega (arith, many-fed 1 entry entries (of_feed feed 1 is same) fed, many-more 2 entry entries)
    by_feed feed is fed (inr same) = omega (arith, many-fed 2 entry entries (of_feed feed 2 is same) fed, many-more 1 entry entries)

    by_event : (b : Bool) → is_fed entry.event ≡ b → IsLegalEvent feeds desks s entry.actor entry.event
        → cond b 1 0 + (many 1 entries + many 2 entries) ≤ many 1 (entry ∷ entries) + many 2 (entry ∷ entries)
    by_event false is legal = omega (arith, many-more 1 entry entries, many-more 2 entry entries)
    by_event true is legal =
        let (feed, actor_is, numbered) = fed_by feeds desks s entry.actor entry.event legal is in
        by_feed feed actor_is is (one_of_two feed numbered.0 (omega (arith, numbered.1, feeds_in.1)))

-- every legal history has a text
pub has_text : (feeds desks : ℕ) (start : State) (entries : List Entry) → IsStart start → IsOneOrTwo feeds → IsOneOrTwo desks
    → IsLegal feeds desks start entries → IsFedWithin start.settings.log entries → HasText start.settings.log feeds desks entries
has_text feeds desks start entries begins feeds_in desks_in legal within = record {
  log_version = (begins.may_start.settings_fit.log_first, begins.may_start.settings_fit.log_limit);
  feeds_number = feeds_in;
  desks_number = desks_in;
  lines = All-from_recursion (HasLine start.settings.log) entries
      (lines_said feeds desks 0 start.settings.log start start entries begins (start_inv desks IsSpelled start begins)
      (omega (arith, fed-le feeds desks start entries feeds_in legal, within.few 1, within.few 2)) feeds_in desks_in legal within.spelled);
}
