-- How many bytes the text of a legal history has.
use Rattle.trip_log.proofs.Common.{◌≡◌, ℕ, ◌+◌, ◌*◌, ◌≤◌, List, [], ◌∷◌, length, refl, sym, subst, arith, length-append, codes, decimal, All, Option, Some, None, IsSomeAnd, AllByRecursion, All-from_recursion, recursion_from_All, sum_by-cons, Actor, Feed, Desk, Whole, Cut, Entry, Event, Fed, Finish, Opened, Committed, Abandoned, Reply, CommitsBatch, IsLegal, IsLegalEntry, IsLegalEvent, after_entry, replay, BatchCopy, State, open_batch_numbered, HasLine, HasText, IsOneOrTwo, IsSpelledEvent, IsSpelledReply, actor_field, entry_line, entry_lines, event_fields, fed_fields, head_line, text_of, IsStart, fed_total, event_goes, fed_in, start_inv, any_fine, any_id, legal_goes, open_batch}
use Rattle.model_laws.proofs.history_laws.Invariant.{Inv, fleet_of, settings_of}
use Rattle.trip_log.proofs.limit_laws.BatchLines.{opened-le, committed-le}
use Rattle.trip_log.proofs.limit_laws.FedLines.{actor-le, fed-le}
use Rattle.trip_log.proofs.limit_laws.Sizes.{size_of, size-line, digit-le, number-le}
use Rattle.trip_log.proofs.limit_laws.Tallies.{closes, ends, one_kind, opens, tallies, total}

-- the most bytes of an event's fields, by its kind
abbrev share : Event → ℕ
share event = 397 * fed_in event + 40493 * opens event + 58813 * closes event + 4 * ends event

-- the fields of an event have no more
event-le : (feeds desks fed log : ℕ) (start s : State) (actor : Actor) (event : Event) → IsStart start → Inv desks fed any_id start s
    → IsLegalEvent feeds desks s actor event → IsSpelledEvent log actor event → size_of (event_fields log event) ≤ share event
event-le feeds desks fed log start s (Feed feed) (Fed command reply) begins inv (numbered, lives, reply_is) (a, b, _) =
    subst (λ (r : Reply). size_of (fed_fields log command r) ≤ share (Fed command r)) (sym reply_is)
    (omega (arith, fed-le log s command a (subst IsSpelledReply reply_is b)))
event-le feeds desks fed log start s (Feed feed) (Finish Whole) begins inv legal h = omega arith
event-le feeds desks fed log start s (Feed feed) (Finish Cut) begins inv legal h = omega arith
event-le feeds desks fed log start s (Desk desk) (Finish Whole) begins inv legal h = omega arith
event-le feeds desks fed log start s (Desk desk) (Finish Cut) begins inv legal h = omega arith
event-le feeds desks fed log start s (Desk desk) (Opened batch time requests plans) begins inv (_, _, names) (a, b, c, d) =
    omega (
      arith,
      opened-le log s desk batch time requests plans (settings_of desks fed any_id start s begins inv).batch_limit
          (fleet_of desks fed any_id start s begins inv).few names a b c d,
    )
event-le feeds desks fed log start s (Desk desk) (Committed number cost seats prices pays outcomes) begins inv legal (a, b, c, d, e, f) =
    by_batch (open_batch_numbered s desk number) refl legal
  where
    by_batch : (o : Option BatchCopy) → open_batch_numbered s desk number ≡ o → IsSomeAnd o (λ batch. CommitsBatch s batch cost seats prices pays outcomes)
        → size_of (event_fields log (Committed number cost seats prices pays outcomes)) ≤ share (Committed number cost seats prices pays outcomes)
    by_batch None is none = absurd none
    by_batch (Some batch) is commits =
        let opened = inv.batches_fit batch (open_batch s desk number batch is).there in
        omega (arith, committed-le log s batch number cost seats prices pays outcomes opened.over_map.few opened.fleet_fits.few commits a b c d e f)
event-le feeds desks fed log start s (Desk desk) (Abandoned number) begins inv legal h = omega (arith, number-le number h)
event-le feeds desks fed log start s (Desk desk) (Fed command reply) begins inv legal h = absurd legal
event-le feeds desks fed log start s (Feed feed) (Opened batch time requests plans) begins inv legal h = absurd legal
event-le feeds desks fed log start s (Feed feed) (Committed number cost seats prices pays outcomes) begins inv legal h = absurd legal
event-le feeds desks fed log start s (Feed feed) (Abandoned number) begins inv legal h = absurd legal

-- with the actor before them, and the LF
entry-le : (feeds desks fed log : ℕ) (start s : State) (entry : Entry) → IsStart start → Inv desks fed any_id start s
    → IsLegalEvent feeds desks s entry.actor entry.event → HasLine log entry → length (entry_line log entry) ≤ 3 + share entry.event
entry-le feeds desks fed log start s entry begins inv legal has =
    omega (
      arith,
      size-line (actor_field entry.actor) (event_fields log entry.event),
      actor-le entry.actor has.actor,
      event-le feeds desks fed log start s entry.actor entry.event begins inv legal has.event,
    )

-- the line of an entry that is legal after a legal history
pub next-line-le : (feeds desks : ℕ) (start : State) (entries : List Entry) (entry : Entry) → IsStart start → IsLegal feeds desks start entries
    → IsLegalEntry feeds desks (replay start entries) entry → HasLine start.settings.log entry → length (entry_line start.settings.log entry) ≤ 58816
next-line-le feeds desks start entries entry begins legal next has =
    omega (
      arith,
      entry-le feeds desks (0 + fed_total entries) start.settings.log start (replay start entries) entry begins
          (legal_goes feeds desks start entries begins legal).inv next has,
      one_kind entry.event,
    )

-- the lines of a history, each and all
record AreShort (log : ℕ) (entries : List Entry) : Type 0 where
  each : AllByRecursion (λ (entry : Entry). length (entry_line log entry) ≤ 58816) entries
  all : length (entry_lines log entries) ≤ 400 * fed_total entries + 40496 * total opens entries + 58816 * total closes entries + 7 * total ends entries

lines-le : (feeds desks fed log : ℕ) (start s : State) (entries : List Entry) → IsStart start → Inv desks fed any_id start s
    → IsLegal feeds desks s entries → AllByRecursion (HasLine log) entries → AreShort log entries
unfolding IsLegal
lines-le feeds desks fed log start s [] begins inv legal have = record { each = tt; all = omega arith }
lines-le feeds desks fed log start s (entry ∷ entries) begins inv (legal, rest) (has, have) =
    let next = event_goes feeds desks fed any_id start s entry.actor entry.event begins inv legal (any_fine entry.event) in
    let first = entry-le feeds desks fed log start s entry begins inv legal has in
    let others = lines-le feeds desks (fed + fed_in entry.event) log start (after_entry s entry) entries begins next.inv rest have in
    record {
      each = (omega (arith, first, one_kind entry.event), others.each);
      all = omega (
        arith,
        first,
        others.all,
        one_kind entry.event,
        sum_by-cons (λ (e : Entry). fed_in e.event) entry entries,
        length-append (entry_line log entry) (entry_lines log entries),
      );
    }

lines-short : (feeds desks : ℕ) (start : State) (entries : List Entry) → IsStart start → IsLegal feeds desks start entries
    → HasText start.settings.log feeds desks entries → AreShort start.settings.log entries
lines-short feeds desks start entries begins legal has =
    lines-le feeds desks 0 start.settings.log start start entries begins (start_inv desks any_id start begins) legal
    (recursion_from_All (HasLine start.settings.log) entries has.lines)

pub short-lines : (feeds desks : ℕ) (start : State) (entries : List Entry) → IsStart start → IsLegal feeds desks start entries
    → HasText start.settings.log feeds desks entries
    → AllByRecursion (λ (entry : Entry). length (entry_line start.settings.log entry) ≤ 58816) entries
short-lines feeds desks start entries begins legal has = (lines-short feeds desks start entries begins legal has).each

pub each-line-le : (feeds desks : ℕ) (start : State) (entries : List Entry) → IsStart start → IsLegal feeds desks start entries
    → HasText start.settings.log feeds desks entries → All (λ (entry : Entry). length (entry_line start.settings.log entry) ≤ 58816) entries
each-line-le feeds desks start entries begins legal has =
    All-from_recursion (λ (entry : Entry). length (entry_line start.settings.log entry) ≤ 58816) entries
    (short-lines feeds desks start entries begins legal has)

-- the head
pub head-le : (log feeds desks : ℕ) → IsOneOrTwo log → IsOneOrTwo feeds → IsOneOrTwo desks → length (head_line log feeds desks) ≤ 22
head-le log feeds desks l f d =
    omega (
      arith,
      digit-le log l.1,
      digit-le feeds f.1,
      digit-le desks d.1,
      size-line (codes "log") (decimal log ∷ codes "feeds" ∷ decimal feeds ∷ codes "desks" ∷ decimal desks ∷ []),
    )

pub text-le : (feeds desks : ℕ) (start : State) (entries : List Entry) → IsStart start → IsLegal feeds desks start entries
    → HasText start.settings.log feeds desks entries
    → length (text_of start.settings.log feeds desks entries) ≤ 400 * fed_total entries + 100000 * 2000 + 7 * 4 + 22
unfolding text_of
text-le feeds desks start entries begins legal has =
    let log : ℕ = start.settings.log in
    let few = tallies feeds desks start entries begins has.feeds_number has.desks_number legal in
    omega (
      arith,
      few.opened,
      few.closed,
      few.ended,
      head-le log feeds desks has.log_version has.feeds_number has.desks_number,
      (lines-short feeds desks start entries begins legal has).all,
      length-append (head_line log feeds desks) (entry_lines log entries),
    )
