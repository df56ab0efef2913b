-- How many entries of each kind a legal history has.
use Rattle.trip_log.proofs.Common.{◌≡◌, ℕ, ◌+◌, ◌*◌, ◌≤◌, ◌⊎◌, Bool, true, false, ◌||◌, not, cond, inl, inr, List, [], ◌∷◌, length, refl, ap, ◌∙◌, arith, length-append, Option, Some, None, IsSome, IsSomeAnd, filter, list_any, eq-eqb, list_any-append, sum_by-cons, or-true, one_of_two, Actor, Feed, Desk, Ending, Entry, Event, Fed, Finish, Opened, Committed, Abandoned, next_batch, after_commit, after_abandon, CommitsBatch, IsLegal, IsLegalEvent, IsNumbered, after_entry, after_event, replay, BatchCopy, State, has_ended, is_actor, is_batch, open_batch_numbered, IsOneOrTwo, IsStart, fed_total, fed_in, consistent, open_batch, fewer-filter, is_batch-own}
use Rattle.model_laws.proofs.RequestStates.{others-opening, abandon-is}
use Rattle.model_laws.proofs.history_laws.Effects.{effect}
use Rattle.model_laws.proofs.history_laws.Others.{ended-stays}
use Rattle.model_laws.proofs.history_laws.Untouched.{leaves-step, stays-outcomes}

-- whether an event opens a batch, closes one, or ends an actor
abbrev pub opens : Event → ℕ
opens (Opened _ _ _ _) = 1
opens _ = 0

abbrev pub closes : Event → ℕ
closes (Committed _ _ _ _ _ _) = 1
closes (Abandoned _) = 1
closes _ = 0

abbrev pub ends : Event → ℕ
ends (Finish _) = 1
ends _ = 0

-- how many entries do
abbrev pub total : (Event → ℕ) → List Entry → ℕ
total kind [] = 0
total kind (entry ∷ entries) = kind entry.event + total kind entries

-- who of two feeds and two desks has ended
abbrev one_ended : State → Actor → ℕ
one_ended s actor = cond (has_ended s actor) 1 0

abbrev all_ended : State → ℕ
all_ended s = one_ended s (Feed 1) + one_ended s (Feed 2) + one_ended s (Desk 1) + one_ended s (Desk 2)

one-at_most : (b : Bool) → cond b 1 0 ≤ 1
one-at_most true = omega arith
one-at_most false = omega arith

four-at_most : (s : State) → all_ended s ≤ 4
four-at_most s =
    omega (
      arith,
      one-at_most (has_ended s (Feed 1)),
      one-at_most (has_ended s (Feed 2)),
      one-at_most (has_ended s (Desk 1)),
      one-at_most (has_ended s (Desk 2)),
    )

-- nobody takes an end back
still-ended : (s : State) (actor other : Actor) (event : Event) → one_ended s other ≤ one_ended (after_event s actor event) other
still-ended s actor other event = by_test (has_ended s other) refl
  where
    by_test : (b : Bool) → has_ended s other ≡ b → cond b 1 0 ≤ one_ended (after_event s actor event) other
    by_test true is = rw (ended-stays s actor other event is) (omega arith)
    by_test false is = omega arith

all-stay : (s : State) (actor : Actor) (event : Event) → all_ended s ≤ all_ended (after_event s actor event)
all-stay s actor event =
    omega (
      arith,
      still-ended s actor (Feed 1) event,
      still-ended s actor (Feed 2) event,
      still-ended s actor (Desk 1) event,
      still-ended s actor (Desk 2) event,
    )

-- who had not ended and ends has
one-more : (s : State) (actor : Actor) (ending : Ending) → is_actor actor actor ≡ true → has_ended s actor ≡ false
    → one_ended s actor + 1 ≤ one_ended (after_event s actor (Finish ending)) actor
one-more s actor ending own lives =
    rw (lives, now) (omega arith)
  where
    test : Actor × Ending → Bool
    test end = is_actor end.0 actor

    now : has_ended (after_event s actor (Finish ending)) actor ≡ true
    now =
        ap (list_any test) (effect s actor (Finish ending)).ended
        ∙ list_any-append test s.ended ((actor, ending) ∷ [])
        ∙ ap (λ b. list_any test s.ended || (b || false)) own
        ∙ or-true (list_any test s.ended)

-- an end is one of the four
feed-ends : (s : State) (feed : ℕ) (ending : Ending) → has_ended s (Feed feed) ≡ false → (feed ≡ 1) ⊎ (feed ≡ 2)
    → 1 + all_ended s ≤ all_ended (after_event s (Feed feed) (Finish ending))
feed-ends s feed ending lives which =
    elim which [
      | inl is ↦
          omega (
            arith,
            ap (λ n. one_ended s (Feed n)) is,
            ap (λ n. one_ended after (Feed n)) is,
            own,
            still-ended s (Feed feed) (Feed 2) (Finish ending),
            still-ended s (Feed feed) (Desk 1) (Finish ending),
            still-ended s (Feed feed) (Desk 2) (Finish ending),
          )
      | inr is ↦
          omega (
            arith,
            ap (λ n. one_ended s (Feed n)) is,
            ap (λ n. one_ended after (Feed n)) is,
            own,
            still-ended s (Feed feed) (Feed 1) (Finish ending),
            still-ended s (Feed feed) (Desk 1) (Finish ending),
            still-ended s (Feed feed) (Desk 2) (Finish ending),
          )
    ]
  where
    after : State
    after = after_event s (Feed feed) (Finish ending)

    own : one_ended s (Feed feed) + 1 ≤ one_ended after (Feed feed)
    own = one-more s (Feed feed) ending (eq-eqb feed feed refl) lives

desk-ends : (s : State) (desk : ℕ) (ending : Ending) → has_ended s (Desk desk) ≡ false → (desk ≡ 1) ⊎ (desk ≡ 2)
    → 1 + all_ended s ≤ all_ended (after_event s (Desk desk) (Finish ending))
desk-ends s desk ending lives which =
    elim which [
      | inl is ↦
          omega (
            arith,
            ap (λ n. one_ended s (Desk n)) is,
            ap (λ n. one_ended after (Desk n)) is,
            own,
            still-ended s (Desk desk) (Feed 1) (Finish ending),
            still-ended s (Desk desk) (Feed 2) (Finish ending),
            still-ended s (Desk desk) (Desk 2) (Finish ending),
          )
      | inr is ↦
          omega (
            arith,
            ap (λ n. one_ended s (Desk n)) is,
            ap (λ n. one_ended after (Desk n)) is,
            own,
            still-ended s (Desk desk) (Feed 1) (Finish ending),
            still-ended s (Desk desk) (Feed 2) (Finish ending),
            still-ended s (Desk desk) (Desk 1) (Finish ending),
          )
    ]
  where
    after : State
    after = after_event s (Desk desk) (Finish ending)

    own : one_ended s (Desk desk) + 1 ≤ one_ended after (Desk desk)
    own = one-more s (Desk desk) ending (eq-eqb desk desk refl) lives

-- what an event adds
record Adds (s after : State) (event : Event) : Type 0 where
  opened : opens event + s.opened ≡ after.opened
  closed : closes event + length after.batches ≤ opens event + length s.batches
  ended : ends event + all_ended s ≤ all_ended after

one_or_two : (most n : ℕ) → IsOneOrTwo most → IsNumbered most n → (n ≡ 1) ⊎ (n ≡ 2)
one_or_two most n fits (low, high) = one_of_two n low (omega (arith, high, fits.1))

-- a batch that is closed was open
fewer : (s : State) (batch : BatchCopy) (desk number : ℕ) → open_batch_numbered s desk number ≡ Some batch
    → length (filter (λ other. not (is_batch batch.desk batch.number other)) s.batches) + 1 ≤ length s.batches
fewer s batch desk number is =
    fewer-filter (λ other. not (is_batch batch.desk batch.number other)) s.batches batch (open_batch s desk number batch is).there
    (ap not (is_batch-own batch))

adds : (feeds desks : ℕ) (s : State) (actor : Actor) (event : Event) → IsOneOrTwo feeds → IsOneOrTwo desks → IsLegalEvent feeds desks s actor event
    → Adds s (after_event s actor event) event
adds feeds desks s (Feed feed) (Fed command reply) f d legal =
    let leaves = leaves-step s command in
    record {
      opened = omega (arith, leaves.opened);
      closed = omega (arith, ap length leaves.batches);
      ended = omega (arith, all-stay s (Feed feed) (Fed command reply));
    }
adds feeds desks s (Feed feed) (Finish ending) f d (numbered, lives) = record {
  opened = omega arith;
  closed = omega arith;
  ended = feed-ends s feed ending lives (one_or_two feeds feed f numbered);
}
adds feeds desks s (Desk desk) (Finish ending) f d (numbered, lives, may) = record {
  opened = omega arith;
  closed = omega arith;
  ended = desk-ends s desk ending lives (one_or_two desks desk d numbered);
}
adds feeds desks s (Desk desk) (Opened number time requests plans) f d legal =
    let is = others-opening s (next_batch s desk) in
    let after : State = after_event s (Desk desk) (Opened number time requests plans) in
    record {
      opened = omega (arith, ap (λ (t : State). t.opened) is);
      closed = omega (arith, ap (λ (t : State). length t.batches) is, length-append s.batches (next_batch s desk ∷ []));
      ended = omega (arith, all-stay s (Desk desk) (Opened number time requests plans));
    }
adds feeds desks s (Desk desk) (Committed number cost seats prices pays outcomes) f d legal = by_batch (open_batch_numbered s desk number) refl legal
  where
    event : Event
    event = Committed number cost seats prices pays outcomes

    by_batch : (o : Option BatchCopy) → open_batch_numbered s desk number ≡ o
        → IsSomeAnd o (λ batch. CommitsBatch s batch cost seats prices pays outcomes) → Adds s (after_event s (Desk desk) event) event
    by_batch None is legal = absurd legal
    by_batch (Some batch) is legal =
        let stays = stays-outcomes batch seats s batch.requests s in
        let ended : all_ended s ≤ all_ended (after_event s (Desk desk) event) = all-stay s (Desk desk) event in
        let after_is : after_event s (Desk desk) event ≡ after_commit batch seats s = rw is refl in
        record {
          opened = omega (arith, ap (λ (t : State). t.opened) after_is, stays.opened);
          closed = omega (
            arith,
            fewer s batch desk number is,
            ap (λ (t : State). length t.batches) after_is,
            ap (λ bs. length (filter (λ other. not (is_batch batch.desk batch.number other)) bs)) stays.batches,
          );
          ended = omega (arith, ended);
        }
adds feeds desks s (Desk desk) (Abandoned number) f d legal = by_batch (open_batch_numbered s desk number) refl legal
  where
    by_batch : (o : Option BatchCopy) → open_batch_numbered s desk number ≡ o → IsSome o
        → Adds s (after_event s (Desk desk) (Abandoned number)) (Abandoned number)
    by_batch None is legal = absurd (cc legal)
    by_batch (Some batch) is legal =
        let left = abandon-is s batch in
        let after_is : after_event s (Desk desk) (Abandoned number) ≡ after_abandon batch s = rw is refl in
        record {
          opened = omega (arith, ap (λ (t : State). t.opened) (after_is ∙ left));
          closed = omega (arith, fewer s batch desk number is, ap (λ (t : State). length t.batches) (after_is ∙ left));
          ended = omega (arith, all-stay s (Desk desk) (Abandoned number));
        }
adds feeds desks s (Desk desk) (Fed command reply) f d legal = absurd legal
adds feeds desks s (Feed feed) (Opened number time requests plans) f d legal = absurd legal
adds feeds desks s (Feed feed) (Committed number cost seats prices pays outcomes) f d legal = absurd legal
adds feeds desks s (Feed feed) (Abandoned number) f d legal = absurd legal

-- what a history adds
record AddsAll (s after : State) (entries : List Entry) : Type 0 where
  opened : total opens entries + s.opened ≡ after.opened
  closed : total closes entries + length after.batches ≤ total opens entries + length s.batches
  ended : total ends entries + all_ended s ≤ all_ended after

adds-all : (feeds desks : ℕ) (s : State) (entries : List Entry) → IsOneOrTwo feeds → IsOneOrTwo desks → IsLegal feeds desks s entries
    → AddsAll s (replay s entries) entries
unfolding IsLegal replay
adds-all feeds desks s [] f d legal = record { opened = omega arith; closed = omega arith; ended = omega arith }
adds-all feeds desks s (entry ∷ entries) f d (legal, rest) =
    let first = adds feeds desks s entry.actor entry.event f d legal in
    let later = adds-all feeds desks (after_entry s entry) entries f d rest in
    record {
      opened = omega (arith, first.opened, later.opened);
      closed = omega (arith, first.closed, later.closed);
      ended = omega (arith, first.ended, later.ended);
    }

-- a legal history opens at most 2,000 batches, closes each at most once, and ends four actors at most
pub record Tallies (entries : List Entry) : Type 0 where
  pub opened : total opens entries ≤ 2000
  pub closed : total closes entries ≤ total opens entries
  pub ended : total ends entries ≤ 4

pub tallies : (feeds desks : ℕ) (start : State) (entries : List Entry) → IsStart start → IsOneOrTwo feeds → IsOneOrTwo desks
    → IsLegal feeds desks start entries → Tallies entries
tallies feeds desks start entries begins f d legal =
    let all = adds-all feeds desks start entries f d legal in
    let is = consistent feeds desks start entries begins legal in
    record {
      opened = omega (arith, all.opened, is.few_opened, is.few_asked);
      closed = omega (arith, all.closed, ap (λ (s : State). length s.batches) begins.nothing_yet);
      ended = omega (arith, all.ended, four-at_most (replay start entries));
    }

-- each entry is of one kind
pub one_kind : (event : Event) → fed_in event + opens event + closes event + ends event ≡ 1
one_kind (Fed command reply) = refl
one_kind (Finish ending) = refl
one_kind (Opened number time requests plans) = refl
one_kind (Committed number cost seats prices pays outcomes) = refl
one_kind (Abandoned number) = refl

kinds : (entries : List Entry) → length entries ≡ fed_total entries + total opens entries + total closes entries + total ends entries
kinds [] = omega arith
kinds (entry ∷ entries) =
    omega (arith, one_kind entry.event, kinds entries, sum_by-cons (λ (e : Entry). fed_in e.event) entry entries)

pub few-entries : (feeds desks : ℕ) (start : State) (entries : List Entry) → IsStart start → IsOneOrTwo feeds → IsOneOrTwo desks
    → IsLegal feeds desks start entries → length entries ≤ fed_total entries + 2 * 2000 + 4
few-entries feeds desks start entries begins f d legal =
    let few = tallies feeds desks start entries begins f d legal in omega (arith, kinds entries, few.opened, few.closed, few.ended)
