-- Batches that a desk opens, commits and gives up at a turn.
use Rattle.fleet_board.proofs.Common.{◌≡◌, ◌≢◌, ℕ, ◌+◌, Bool, true, false, not, cond, inl, inr, List, [], ◌∷◌, ◌++◌, Some, None, eqb, refl, sym, ap, subst, ◌∙◌, find, ◌==◌, is_some, IsNone, IsSomeAnd, IfOk, Ok, Result, filter, eqb-true, AllocError, same_Some, Entry, next_batch, outcomes_of, replay, IsLegal, CommitsBatch, BatchCopy, seating_cost, State, is_batch, open_batch_of, open_batch_numbered, Among, found_among, IsLegal-parts, consistent, Batch, Recorded, state_of, opened_entry, committed_entry, abandoned_entry, HasNoneOpen, HasOpen, OpensBatch, OpensNone, IsPriceable, Known, root_of, seen_state, state_before, desk_of, IsPoint, IsDesk, IsTold}
use Rattle.batch_commit.specs.inner.Solved.{SolvedBatch}
use Rattle.model_laws.proofs.history_laws.Leaving.{is_batch-own}
use Rattle.model_laws.proofs.history_laws.Lookups.{found_by}
use Rattle.model_laws.proofs.history_laws.Unmoved.{unmoved, vehicles_differ}
use Rattle.board_core.specs.declared.opening.Opening.{Opening}
use Rattle.board_core.specs.inner.Opening.{opening_at}
use Rattle.board_core.proofs.OpenBatches.{IsOpen, Gets, gets, got-next, open-priceable, batches-committed, batches-abandoned, after-committed}
use Rattle.fleet_board.specs.inner.Commits.{CommitsSolved, ChangesOnlyStanding}
use Rattle.fleet_board.proofs.Actors.{DeskFound, desk-found}
use Rattle.fleet_board.proofs.Points.{GoesOn, Added, Looked, adds, sees, before-added, state-added, state-looked, state-new, root-new, root-looked}

-- the desk's batch is open at what a turn finds
pub still-open : (k : Known) (board : Recorded) (batch : BatchCopy) → DeskFound k board → HasOpen k batch → IsOpen (state_of board) batch
still-open k board batch found held =
    ap (λ d. open_batch_numbered (state_of board) d batch.number) held.of_desk
    ∙ found.same_numbered batch.number
    ∙ ap (λ d. open_batch_numbered (seen_state k) d batch.number) (sym held.of_desk)
    ∙ held.is_open

-- nothing is found where each element that passes is taken out
none-kept : {X : Type 0} (p q : X → Bool) (xs : List X) → ((x : X) → Among x xs → p x ≡ true → q x ≡ false) → find p (filter q xs) ≡ None
none-kept p q [] goes = refl
none-kept {X} p q (x ∷ xs) goes =
    by_test (none-kept p q xs (λ y there. goes y (inr there))) (p x) refl (q x) refl
  where
    by_test : find p (filter q xs) ≡ None → (b : Bool) → p x ≡ b → (c : Bool) → q x ≡ c
        → find p (cond c (x ∷ filter q xs) (filter q xs)) ≡ None
    by_test later b passes false out = later
    by_test later true passes true stays = absurd (cc (goes x (inl refl) passes, stays))
    by_test later false passes true stays = ap (λ b. cond b (Some x) (find p (filter q xs))) passes ∙ later

-- a desk has none open after its batch was closed, since open batches are of different desks
closed-none : (old : Recorded) (batch : BatchCopy) (after : State) → IsTold old → IsOpen (state_of old) batch
    → after.batches ≡ filter (λ other. not (is_batch batch.desk batch.number other)) (state_of old).batches
    → open_batch_of after batch.desk ≡ None
closed-none old batch after told held batches =
    ap (find (λ (b : BatchCopy). b.desk == batch.desk)) batches
    ∙ none-kept (λ (b : BatchCopy). b.desk == batch.desk) (λ other. not (is_batch batch.desk batch.number other)) s.batches its
  where
    s : State
    s = state_of old

    its : (b : BatchCopy) → Among b s.batches → eqb b.desk batch.desk ≡ true → not (is_batch batch.desk batch.number b) ≡ false
    its b there of_desk =
        let differ = (consistent old.feeds old.desks old.start old.history told.start_fits told.legal).desks_differ in
        let batch_there = (found_among (is_batch batch.desk batch.number) s.batches batch held).0 in
        let one : b ≡ batch
        = same_Some b batch (sym (found_by (λ (x : BatchCopy). x.desk) s.batches b differ there)
        ∙ ap (λ d. find (λ (x : BatchCopy). x.desk == d) s.batches) (eqb-true b.desk batch.desk of_desk)
        ∙ found_by (λ (x : BatchCopy). x.desk) s.batches batch differ batch_there) in
        ap not (ap (is_batch batch.desk batch.number) one ∙ is_batch-own batch)

-- so the pass's desk has none open after a turn that closed its batch
none-open : (k after : Known) (old new : Recorded) (entry : Entry) (batch : BatchCopy) → Added k after old new entry → DeskFound k old → HasOpen k batch
    → (state_of new).batches ≡ filter (λ other. not (is_batch batch.desk batch.number other)) (state_of old).batches
    → HasNoneOpen after
none-open k after old new entry batch a found held batches =
    ap (λ (x : Known). is_some (open_batch_of (seen_state after) (desk_of x))) a.knows
    ∙ ap (λ d. is_some (open_batch_of (seen_state after) d)) (sym held.of_desk)
    ∙ ap (λ (s : State). is_some (open_batch_of s batch.desk)) (state-new k after old new entry a)
    ∙ ap is_some (closed-none old batch (state_of new) a.found.told (still-open k old batch found held) batches)

pub none-committed : (k after : Known) (old new : Recorded) (solved : SolvedBatch) → Added k after old new (committed_entry (state_of old) solved)
    → DeskFound k old → HasOpen k solved.batch → HasNoneOpen after
none-committed k after old new solved a found held =
    none-open k after old new (committed_entry (state_of old) solved) solved.batch a found held
    (batches-committed old new solved (ap (λ (b : Recorded). b.start) a.goes) (still-open k old solved.batch found held) a.history)

pub none-abandoned : (k after : Known) (old new : Recorded) (batch : BatchCopy) → Added k after old new (abandoned_entry batch)
    → DeskFound k old → HasOpen k batch → HasNoneOpen after
none-abandoned k after old new batch a found held =
    none-open k after old new (abandoned_entry batch) batch a found held
    (batches-abandoned old new batch (ap (λ (b : Recorded). b.start) a.goes) (still-open k old batch found held) a.history)

-- a commit certifies its seating over the batch's copies
pub certified : (k after : Known) (old new : Recorded) (solved : SolvedBatch) → Added k after old new (committed_entry (state_of old) solved)
    → DeskFound k old → HasOpen k solved.batch → CommitsSolved (state_before after) solved
unfolding IsLegal
certified k after old new solved a found held =
    let s : State = state_of old in
    let legal = IsLegal-parts new.feeds new.desks new.start old.history (committed_entry s solved ∷ [])
    (subst (IsLegal new.feeds new.desks new.start) a.history a.told.legal) in
    let here = subst (λ (start : State). IsSomeAnd (open_batch_numbered (replay start old.history) solved.batch.desk solved.batch.number)
    (λ batch. CommitsBatch (replay start old.history) batch (seating_cost s.roads solved.batch solved.answer.seating) solved.answer.seating
    solved.answer.prices solved.answer.pays (outcomes_of solved.batch solved.answer.seating s))) (ap (λ (b : Recorded). b.start) a.goes) legal.1.0 in
    subst (λ (t : State). CommitsSolved t solved) (sym (before-added k after old new (committed_entry s solved) a))
    (subst (λ o. IsSomeAnd o (λ batch. CommitsBatch s batch (seating_cost s.roads solved.batch solved.answer.seating) solved.answer.seating
    solved.answer.prices solved.answer.pays (outcomes_of solved.batch solved.answer.seating s))) (still-open k old solved.batch found held) here)

-- and changes only vehicles whose version stands
pub standing : (k after : Known) (old new : Recorded) (solved : SolvedBatch) → Added k after old new (committed_entry (state_of old) solved)
    → DeskFound k old → HasOpen k solved.batch → ChangesOnlyStanding (state_before after) solved.batch (seen_state after)
standing k after old new solved a found held =
    let s : State = state_of old in
    let entry : Entry = committed_entry s solved in
    subst (λ (t : State). ChangesOnlyStanding t solved.batch (seen_state after)) (sym (before-added k after old new entry a))
    (subst (λ (t : State). ChangesOnlyStanding s solved.batch t) (sym (state-added k after old new entry a ∙ after-committed s solved (still-open k old solved.batch found held)))
    (λ id differs. unmoved s solved.batch solved.answer.seating id
    (vehicles_differ old.feeds old.desks old.start old.history a.found.told.start_fits a.found.told.legal) differs))

-- a batch that the desk got
pub opens : (k after : Known) (old new : Recorded) (batch : BatchCopy) → Added k after old new (opened_entry batch)
    → DeskFound k old → batch ≡ next_batch (state_of old) (desk_of k) → IsOpen (state_of new) batch → OpensBatch k after batch
opens k after old new batch a found next held = record {
  entry = adds k after old new (opened_entry batch) a;
  copied = next ∙ (λ i. next_batch (sym (before-added k after old new (opened_entry batch) a) i) (sym (ap desk_of a.knows) i));
  open_now = record {
    of_desk = ap (λ (b : BatchCopy). b.desk) next ∙ sym (ap desk_of a.knows);
    is_open = ap (λ (s : State). open_batch_numbered s batch.desk batch.number) (state-new k after old new (opened_entry batch) a) ∙ held;
  };
  priceable =
      subst (λ (r : Recorded). IsPriceable r.start.roads batch) (sym (root-new k after old new (opened_entry batch) a))
      (open-priceable new batch.desk batch.number batch a.told.start_fits a.told.legal held);
}

-- the desk has none open still
pub none-looked : (k after : Known) (old : Recorded) → Looked k after old → IsPoint k → IsDesk k → HasNoneOpen k → HasNoneOpen after
none-looked k after old l point desk none =
    ap (λ (x : Known). is_some (open_batch_of (seen_state after) (desk_of x))) l.knows
    ∙ ap (λ (s : State). is_some (open_batch_of s (desk_of k))) (state-looked k after old l)
    ∙ ap is_some (desk-found k old point desk l.found).same_open
    ∙ none

-- no batch that the desk got
pub none_opened : (k after : Known) (old : Recorded) (opening : Opening) → Looked k after old → IsPoint k → IsDesk k → HasNoneOpen k
    → opening ≡ opening_at old.feeds (state_of old) (desk_of k) → OpensNone k after opening
none_opened k after old opening l point desk none told = record {
  none = sees k after old l;
  none_open = none-looked k after old l point desk none;
  told = told ∙ (λ i. opening_at (feeds_are i) (sym (state-looked k after old l) i) (sym (ap desk_of l.knows) i));
}
  where
    feeds_are : old.feeds ≡ (root_of after).feeds
    feeds_are = sym (ap (λ (r : Recorded). r.feeds) (root-looked k after old l ∙ l.found.began))

-- what a desk got at its turn: the next batch
pub record GotBatch (k : Known) (old new : Recorded) (batch : BatchCopy) : Type 0 where
  pub next : batch ≡ next_batch (state_of old) (desk_of k)
  pub open_now : IsOpen (state_of new) batch
  pub history : new.history ≡ old.history ++ opened_entry batch ∷ []
  pub made : batch.desk + 2 ≡ k.number

pub got-batch : (k : Known) (old new : Recorded) (desk : ℕ) (r : Result Opening AllocError) (batch : BatchCopy) → DeskFound k old → HasNoneOpen k
    → desk ≡ desk_of k → GoesOn old new → r ≡ Ok (Batch batch) → IfOk r (λ o. o ≡ opening_at old.feeds (state_of old) desk)
    → ((b : BatchCopy) → r ≡ Ok (Batch b) → new.history ≡ old.history ++ opened_entry b ∷ [])
    → (((b : BatchCopy) → r ≢ Ok (Batch b)) → new.history ≡ old.history) → GotBatch k old new batch
got-batch k old new desk r batch found none desk_is goes is opening entry no_entry = record {
  next = next;
  open_now = (got.opened batch is).1;
  history = entry batch is;
  made = ap (λ (b : BatchCopy). b.desk + 2) next ∙ found.number_is;
}
  where
    none_there : IsNone (open_batch_of (state_of old) desk)
    none_there = ap (λ d. is_some (open_batch_of (state_of old) d)) desk_is ∙ ap is_some found.same_open ∙ none

    got : Gets old new desk r
    got = gets old new desk r (ap (λ (b : Recorded). b.start) goes) none_there opening entry no_entry

    next : batch ≡ next_batch (state_of old) (desk_of k)
    next =
        got-next (state_of old) old.feeds desk (Batch batch) batch
        (subst (λ q. IfOk q (λ o. o ≡ opening_at old.feeds (state_of old) desk)) is opening) refl
        ∙ ap (next_batch (state_of old)) desk_is

-- what it was told, where it got none
pub told-none : (k : Known) (old : Recorded) (desk : ℕ) (r : Result Opening AllocError) (opening : Opening) → desk ≡ desk_of k → r ≡ Ok opening
    → IfOk r (λ o. o ≡ opening_at old.feeds (state_of old) desk) → opening ≡ opening_at old.feeds (state_of old) (desk_of k)
told-none k old desk r opening desk_is is told =
    subst (λ q. IfOk q (λ o. o ≡ opening_at old.feeds (state_of old) desk)) is told ∙ ap (opening_at old.feeds (state_of old)) desk_is
