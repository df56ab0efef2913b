-- Batches that are opened.
use Rattle.board_core.proofs.Common.{◌≡◌, ℕ, ◌+◌, ◌<◌, ◌≤◌, Bool, true, false, not, ◌&&◌, cond, List, [], ◌∷◌, ◌++◌, length, eqb, ltb, refl, sym, ◌∙◌, ap, subst, length-append, arith, ◌==◌, Option, Some, None, option_map, is_some, find, All, IsTrue, IsFalse, IsNone, option_or, eqb-true, lt-ltb, and_from, Contains-push, All-contains, find-append, Desk, Entry, InBatch, may_open, next_batch, after_opening, IsNumbered, IsLegalEntry, NamesBatch, versions_of, BatchCopy, State, has_ended, open_batch_of, IsOneOrTwo, ride_ids, replay-push, IsOpenBatch, Desks, Service, Given, places_kept, with_opened, Mirrors, IsBoard, marked_in, Recorded, state_of, opened_entry, state_at, batch_at, none_from_is_some}
use Rattle.board_core.proofs.FedEntries.{within-push, none-of_others}
use Rattle.board_core.proofs.Marked.{with_states-marked}
use Rattle.board_core.proofs.Numbering.{at_number-with, count-with}
use Rattle.board_core.proofs.Boards.{board-consistent, pushed, recorded-push, abandoned-push}

-- the next batch by what is kept
pub next-is : (setup : Given) (service : Service) (kept : Desks) (capacity : ℕ) (board : Recorded) (desk : ℕ) → IsBoard setup service kept capacity board
    → next_batch (state_of board) desk ≡ batch_at setup service (kept.opened + 1) desk
next-is setup service kept capacity board desk is =
    ap (λ t. next_batch t desk) is.mirrors.state_is ∙ ap (λ n. batch_at setup service (n + 1) desk) (sym is.mirrors.opened_is)

-- the state after an opening
opened-state : (setup : Given) (service after : Service) (s : State) (batch : BatchCopy) → s ≡ state_at setup service s
    → after ≡ record service { requests = marked_in (InBatch batch.number) (ride_ids batch.requests) service.requests }
    → after_opening s batch ≡ record (state_at setup after s) { opened = s.opened + 1; batches = s.batches ++ batch ∷ [] }
opened-state setup service after s batch is after_is =
    ap (λ (marked : State). record marked { opened = s.opened + 1; batches = s.batches ++ batch ∷ [] })
    (with_states-marked (InBatch batch.number) batch.requests s
    ∙ ap (λ (t : State). record t { requests = marked_in (InBatch batch.number) (ride_ids batch.requests) t.requests }) is
    ∙ ap (λ (service : Service). state_at setup service s) (sym after_is))

-- the open batch of a desk, where one more is open
pub open-with : (desk d : ℕ) (batch : BatchCopy) (batches : List BatchCopy) → batch.desk ≡ desk
    → find (λ (b : BatchCopy). b.desk == desk) batches ≡ None
    → find (λ (b : BatchCopy). b.desk == d) (batches ++ batch ∷ []) ≡ cond (eqb desk d) (Some batch) (find (λ (b : BatchCopy). b.desk == d) batches)
open-with desk d batch batches is none =
    find-append (λ (b : BatchCopy). b.desk == d) batches (batch ∷ [])
    ∙ ap (λ k. option_or (find (λ (b : BatchCopy). b.desk == d) batches) (cond (eqb k d) (Some batch) None)) is
    ∙ by_test (eqb desk d) refl
  where
    or_none : (o : Option BatchCopy) → option_or o None ≡ o
    or_none None = refl
    or_none (Some b) = refl

    by_test : (t : Bool) → eqb desk d ≡ t
        → option_or (find (λ (b : BatchCopy). b.desk == d) batches) (cond t (Some batch) None) ≡ cond t (Some batch) (find (λ (b : BatchCopy). b.desk == d) batches)
    by_test true here =
        ap (λ o. option_or o (Some batch)) (ap (λ k. find (λ (b : BatchCopy). b.desk == k) batches) (sym (eqb-true desk d here)) ∙ none)
    by_test false other = or_none (find (λ (b : BatchCopy). b.desk == d) batches)

-- a board that has opened a batch
pub record Opens (setup : Given) (after : Service) (kept : Desks) (room : ℕ) (board : Recorded) (desk : ℕ) (batch : BatchCopy) : Type 0 where
  pub in_order : IsBoard setup after (with_opened desk kept) room (pushed board (opened_entry batch) board.spare)
  pub open_now : IsOpenBatch board.desks (state_of (pushed board (opened_entry batch) board.spare)) batch

-- a board goes on by an opening
pub board-opened : (setup : Given) (service after : Service) (kept : Desks) (capacity room : ℕ) (board : Recorded) (desk : ℕ) (batch : BatchCopy)
    → IsBoard setup service kept capacity board → IsNumbered board.desks desk → IsFalse (has_ended (state_of board) (Desk desk))
    → IsNone (open_batch_of (state_of board) desk) → kept.opened < service.asked → batch ≡ batch_at setup service (kept.opened + 1) desk
    → after ≡ record service { requests = marked_in (InBatch batch.number) (ride_ids batch.requests) service.requests }
    → length board.history + (board.spare + places_kept kept + 2) ≤ room
    → Opens setup after kept room board desk batch
board-opened setup service after kept capacity room board desk batch is numbered lives none_open more batch_is after_is fits = record {
  in_order = made;
  open_now = subst (λ (t : State). All (IsOpenBatch board.desks next) t.batches → IsOpenBatch board.desks next batch) (sym next_is)
      (λ each. All-contains (IsOpenBatch board.desks next) (s.batches ++ batch ∷ []) batch each (Contains-push s.batches batch))
      (board-consistent setup after (with_opened desk kept) room (pushed board entry board.spare) made).batches_fit;
}
  where
    s : State
    s = state_of board

    entry : Entry
    entry = opened_entry batch

    next : State
    next = state_of (pushed board entry board.spare)

    batch_here : next_batch s desk ≡ batch
    batch_here = next-is setup service kept capacity board desk is ∙ sym batch_is

    desk_is : batch.desk ≡ desk
    desk_is = ap (λ (b : BatchCopy). b.desk) batch_is

    number_is : batch.number ≡ kept.opened + 1
    number_is = ap (λ (b : BatchCopy). b.number) batch_is

    none : open_batch_of s desk ≡ None
    none = none_from_is_some (open_batch_of s desk) none_open

    two : IsOneOrTwo desk
    two = (numbered.0, omega (arith, numbered.1, is.recorded.desks_fit.1))

    next_is : next ≡ record (state_at setup after s) { opened = s.opened + 1; batches = s.batches ++ batch ∷ [] }
    next_is =
        replay-push board.start board.history entry
        ∙ ap (λ d. after_opening s (next_batch s d)) desk_is
        ∙ ap (after_opening s) batch_here
        ∙ opened-state setup service after s batch is.mirrors.state_is after_is

    may : may_open s desk ≡ true
    may = and_from (not (has_ended s (Desk desk)) && not (is_some (open_batch_of s desk))) (ltb s.opened s.asked)
        (and_from (not (has_ended s (Desk desk))) (not (is_some (open_batch_of s desk))) (ap not lives) (ap (λ o. not (is_some o)) none))
        (lt-ltb s.opened s.asked (omega (arith, more, is.mirrors.opened_is, ap (λ (t : State). t.asked) is.mirrors.state_is)))

    legal : IsLegalEntry board.feeds board.desks s entry
    legal = subst (λ d. IsNumbered board.desks d × IsTrue (may_open s d) × NamesBatch (next_batch s d) batch.number batch.time (ride_ids batch.requests)
        (versions_of batch.vehicles)) (sym desk_is) (
          numbered,
          may,
          subst (λ b. NamesBatch b batch.number batch.time (ride_ids batch.requests) (versions_of batch.vehicles)) (sym batch_here)
              (record { number_is = refl; time_is = refl; requests_are = refl; plans_are = refl }),
        )

    made : IsBoard setup after (with_opened desk kept) room (pushed board entry board.spare)
    made = record {
      ids_are = is.ids_are;
      recorded = recorded-push board entry board.spare is.recorded legal
          (within-push board.start.settings.log board.history entry is.recorded.fed_within tt
          (λ feed. omega (arith, none-of_others entry refl feed, is.recorded.fed_within.few feed)));
      mirrors = subst (λ t. Mirrors setup after (with_opened desk kept) t (board.history ++ entry ∷ [])) (sym next_is) (record {
        state_is = refl;
        opened_is = ap (λ n. n + 1) is.mirrors.opened_is;
        open_are = λ d.
            ap (option_map (λ (b : BatchCopy). b.number)) (open-with desk d batch s.batches desk_is none)
            ∙ number_in (eqb desk d) (open_batch_of s d)
            ∙ (λ i. cond (eqb desk d) (Some (number_is i)) (is.mirrors.open_are d i))
            ∙ sym (at_number-with desk d (Some (kept.opened + 1)) kept.batches two);
        ended_are = is.mirrors.ended_are;
        whole_are = is.mirrors.whole_are;
        given_up_is = is.mirrors.given_up_is ∙ sym (abandoned-push board.history entry refl);
      });
      room = omega (
        arith,
        fits,
        count-with desk (Some (kept.opened + 1)) kept.batches two,
        length-append board.history (entry ∷ []),
      );
    }
      where
        number_in : (t : Bool) (o : Option BatchCopy)
            → option_map (λ (b : BatchCopy). b.number) (cond t (Some batch) o) ≡ cond t (Some batch.number) (option_map (λ (b : BatchCopy). b.number) o)
        number_in true o = refl
        number_in false o = refl
