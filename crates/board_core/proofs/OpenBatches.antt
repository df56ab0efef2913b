-- Batches that are open while a board goes on.
use Rattle.board_core.proofs.Common.{◌≡◌, ◌≢◌, ℕ, ◌≤◌, Bool, true, false, not, cond, List, [], ◌∷◌, ◌++◌, length, Option, Some, None, Result, Ok, Err, eqb, refl, sym, ap, subst, ◌∙◌, arith, find, ◌==◌, nat_lt, All, IsNone, IfOk, OnOk, OnErr, IfSome, filter, option_or, AllocError, eqb-true, ne_eqb, find-append, of_all, length-filter_map-le, none_from_is_some, found_among, Actor, Feed, Command, Ending, Entry, Reply, next_batch, after_opening, after_commit, outcomes_of, entries_of, command_of, fed_commands, after_entry, replay, IsLegal, all_feeds_ended, RoadMap, BatchCopy, seating_cost, State, is_actor, is_batch, open_batch_of, open_batch_numbered, SolvedBatch, IsPriceable, replay-push, IsOpenBatch, IsStart, consistent, length-filter-le, committed-state, abandoned-state, Recorded, state_of, end_entry, opened_entry, fed_entry, committed_entry, abandoned_entry}
use Rattle.model_laws.proofs.RequestStates.{others-opening, abandon-is}
use Rattle.model_laws.proofs.history_laws.Leaving.{is_batch-own}
use Rattle.model_laws.proofs.history_laws.Untouched.{leaves-step, stays-outcomes}
use Rattle.board_core.specs.declared.opening.Opening.{Opening}
use Rattle.board_core.specs.declared.opening.Opening.TheVariants.{Batch, Idle, Ended}
use Rattle.board_core.specs.inner.Opening.{opening_at}

-- the state of a board that went on by an entry
pub state-push : (old new : Recorded) (entry : Entry) → new.start ≡ old.start → new.history ≡ old.history ++ entry ∷ []
    → state_of new ≡ after_entry (state_of old) entry
state-push old new entry start history = (λ i. replay (start i) (history i)) ∙ replay-push old.start old.history entry

-- what was opened is one batch
pub same_batch : (a b : BatchCopy) → Batch a ≡ Batch b → a ≡ b
same_batch a b e = cc e

pub same_got : (a b : BatchCopy) → ◌≡◌ {A = Result Opening AllocError} (Ok (Batch a)) (Ok (Batch b)) → a ≡ b
same_got a b e = cc e

-- a batch is open, found by its desk and number
abbrev pub IsOpen : State → BatchCopy → Type 0
IsOpen s b = open_batch_numbered s b.desk b.number ≡ Some b

-- it stays open where the open batches stay
pub open-same : (s t : State) → t.batches ≡ s.batches → (b : BatchCopy) → IsOpen s b → IsOpen t b
open-same s t same b held = ap (find (is_batch b.desk b.number)) same ∙ held

-- and where one more is opened
pub open-more : (s t : State) (batch : BatchCopy) → t.batches ≡ s.batches ++ batch ∷ [] → (b : BatchCopy) → IsOpen s b → IsOpen t b
open-more s t batch more b held =
    ap (find (is_batch b.desk b.number)) more
    ∙ find-append (is_batch b.desk b.number) s.batches (batch ∷ [])
    ∙ ap (λ o. option_or o (find (is_batch b.desk b.number) (batch ∷ []))) held

-- no batch of a desk has a number
pub none-numbered : (desk number : ℕ) (batches : List BatchCopy) → find (λ (b : BatchCopy). b.desk == desk) batches ≡ None
    → find (is_batch desk number) batches ≡ None
none-numbered desk number [] none = refl
none-numbered desk number (b ∷ batches) none = by_test (none-numbered desk number batches) (eqb b.desk desk) refl
  where
    by_test : (find (λ (x : BatchCopy). x.desk == desk) batches ≡ None → find (is_batch desk number) batches ≡ None)
        → (t : Bool) → eqb b.desk desk ≡ t → find (is_batch desk number) (b ∷ batches) ≡ None
    by_test later true is = absurd (cc (none, is))
    by_test later false is =
        rw is (later (sym (ap (λ t. cond t (Some b) (find (λ (x : BatchCopy). x.desk == desk) batches)) is) ∙ none))

-- the batch that is opened is open
pub open-last : (s t : State) (batch : BatchCopy) → t.batches ≡ s.batches ++ batch ∷ [] → IsNone (open_batch_of s batch.desk) → IsOpen t batch
open-last s t batch more none =
    ap (find (is_batch batch.desk batch.number)) more
    ∙ find-append (is_batch batch.desk batch.number) s.batches (batch ∷ [])
    ∙ ap (λ o. option_or o (find (is_batch batch.desk batch.number) (batch ∷ [])))
    (none-numbered batch.desk batch.number s.batches (none_from_is_some (open_batch_of s batch.desk) none))
    ∙ ap (λ t. cond t (Some batch) None) (is_batch-own batch)

-- a batch of another desk stays open where one is closed
pub open-other : (s t : State) (closed : BatchCopy) → t.batches ≡ filter (λ other. not (is_batch closed.desk closed.number other)) s.batches
    → (b : BatchCopy) → b.desk ≢ closed.desk → IsOpen s b → IsOpen t b
open-other s t closed less b other held =
    ap (find (is_batch b.desk b.number)) less ∙ through s.batches ∙ held
  where
    through : (batches : List BatchCopy)
        → find (is_batch b.desk b.number) (filter (λ x. not (is_batch closed.desk closed.number x)) batches) ≡ find (is_batch b.desk b.number) batches
    through [] = refl
    through (x ∷ batches) = by_test (through batches) (eqb x.desk closed.desk) refl
      where
        by_test : find (is_batch b.desk b.number) (filter (λ x. not (is_batch closed.desk closed.number x)) batches) ≡ find (is_batch b.desk b.number) batches
            → (k : Bool) → eqb x.desk closed.desk ≡ k
            → find (is_batch b.desk b.number) (filter (λ x. not (is_batch closed.desk closed.number x)) (x ∷ batches))
            ≡ find (is_batch b.desk b.number) (x ∷ batches)
        by_test later false is = rw is (ap (λ o. cond (is_batch b.desk b.number x) (Some x) o) later)
        by_test later true is =
            let apart : eqb x.desk b.desk ≡ false = ne_eqb x.desk b.desk (λ same. other (sym same ∙ eqb-true x.desk closed.desk is)) in
            by_number later apart (eqb x.number closed.number) refl
          where
            by_number : find (is_batch b.desk b.number) (filter (λ x. not (is_batch closed.desk closed.number x)) batches) ≡ find (is_batch b.desk b.number) batches
                → eqb x.desk b.desk ≡ false → (k : Bool) → eqb x.number closed.number ≡ k
                → find (is_batch b.desk b.number) (filter (λ x. not (is_batch closed.desk closed.number x)) (x ∷ batches))
                ≡ find (is_batch b.desk b.number) (x ∷ batches)
            by_number later apart true numbered = rw (is, numbered, apart) later
            by_number later apart false numbered = rw (is, numbered, apart) later

-- what an answer that takes memory tells, with memory or without
by_result : {T : Type 0} (r : Result T AllocError) (A B C : Type 0) → OnOk r A → OnErr r B → (A → C) → (B → C) → C
by_result (Ok x) A B C some none f g = f some
by_result (Err e) A B C some none f g = g none

-- a board that answered a command
pub open-fed : (old new : Recorded) (feed : ℕ) (command : Command) (r : Result Reply AllocError) → new.start ≡ old.start
    → OnOk r (new.history ≡ old.history ++ fed_entry (state_of old) feed command ∷ []) → OnErr r (new ≡ old)
    → (b : BatchCopy) → IsOpen (state_of old) b → IsOpen (state_of new) b
open-fed old new feed command r start entry same b held =
    by_result r (new.history ≡ old.history ++ fed_entry (state_of old) feed command ∷ []) (new ≡ old) (IsOpen (state_of new) b) entry same
    (λ history. open-same (state_of old) (state_of new)
    (ap (λ (t : State). t.batches) (state-push old new (fed_entry (state_of old) feed command) start history)
    ∙ (leaves-step (state_of old) command).batches) b held)
    (λ is. subst (λ (board : Recorded). IsOpen (state_of board) b) (sym is) held)

-- a board of which an actor has ended
pub open-ended : (old new : Recorded) (actor : Actor) (ending : Ending) → new.start ≡ old.start
    → new.history ≡ old.history ++ end_entry actor ending ∷ [] → (b : BatchCopy) → IsOpen (state_of old) b → IsOpen (state_of new) b
open-ended old new actor ending start history =
    open-same (state_of old) (state_of new)
    (ap (λ (t : State). t.batches) (state-push old new (end_entry actor ending) start history))

-- the batch that a desk gets
pub got-next : (s : State) (feeds desk : ℕ) (o : Opening) (batch : BatchCopy) → o ≡ opening_at feeds s desk → o ≡ Batch batch
    → batch ≡ next_batch s desk
got-next s feeds desk o batch is got = by_test (nat_lt s.opened s.asked) (all_feeds_ended feeds s) (sym got ∙ is)
  where
    by_test : (t u : Bool) → Batch batch ≡ cond t (Batch (next_batch s desk)) (cond u Ended Idle) → batch ≡ next_batch s desk
    by_test true u e = cc e
    by_test false true e = absurd (cc e)
    by_test false false e = absurd (cc e)

-- the open batches of a board that opened one
batches-opened : (old new : Recorded) (desk : ℕ) (batch : BatchCopy) → new.start ≡ old.start → batch ≡ next_batch (state_of old) desk
    → new.history ≡ old.history ++ opened_entry batch ∷ [] → (state_of new).batches ≡ (state_of old).batches ++ batch ∷ []
batches-opened old new desk batch start is history =
    let s : State = state_of old in
    ap (λ (t : State). t.batches) (state-push old new (opened_entry batch) start history)
    ∙ ap (λ (b : BatchCopy). (after_opening s (next_batch s b.desk)).batches) is
    ∙ ap (λ (b : BatchCopy). (after_opening s b).batches) (sym is)
    ∙ ap (λ (t : State). t.batches) (others-opening s batch)

-- what a desk got, and what it leaves open
pub record Gets (old new : Recorded) (desk : ℕ) (r : Result Opening AllocError) : Type 0 where
  pub held : (b : BatchCopy) → IsOpen (state_of old) b → IsOpen (state_of new) b
  pub opened : (b : BatchCopy) → r ≡ Ok (Batch b) → (b.desk ≡ desk) × IsOpen (state_of new) b

pub gets : (old new : Recorded) (desk : ℕ) (r : Result Opening AllocError) → new.start ≡ old.start
    → IsNone (open_batch_of (state_of old) desk)
    → IfOk r (λ o. o ≡ opening_at old.feeds (state_of old) desk)
    → ((batch : BatchCopy) → r ≡ Ok (Batch batch) → new.history ≡ old.history ++ opened_entry batch ∷ [])
    → (((batch : BatchCopy) → r ≢ Ok (Batch batch)) → new.history ≡ old.history)
    → Gets old new desk r
gets old new desk r start none opening entry no_entry = by_kind r refl
  where
    stays : ((batch : BatchCopy) → r ≢ Ok (Batch batch)) → Gets old new desk r
    stays no_batch = record {
      held = open-same (state_of old) (state_of new)
          (ap (λ (t : State). t.batches) (λ i. replay (start i) (no_entry no_batch i)));
      opened = λ b is. absurd (no_batch b is);
    }

    by_kind : (q : Result Opening AllocError) → r ≡ q → Gets old new desk r
    by_kind (Ok (Batch batch)) is =
        let next : batch ≡ next_batch (state_of old) desk = got-next (state_of old) old.feeds desk (Batch batch) batch
        (subst (λ q. IfOk q (λ o. o ≡ opening_at old.feeds (state_of old) desk)) is opening) refl in
        let desk_is : batch.desk ≡ desk = ap (λ (b : BatchCopy). b.desk) next in
        let more : (state_of new).batches ≡ (state_of old).batches ++ batch ∷ [] = batches-opened old new desk batch start next (entry batch is) in
        record {
          held = open-more (state_of old) (state_of new) batch more;
          opened = λ b is_b. subst (λ (x : BatchCopy). (x.desk ≡ desk) × IsOpen (state_of new) x) (same_got batch b (sym is ∙ is_b)) (
            desk_is,
            open-last (state_of old) (state_of new) batch more (subst (λ d. IsNone (open_batch_of (state_of old) d)) (sym desk_is) none),
          );
        }
    by_kind (Ok Idle) is = stays (λ b e. absurd (cc (is, e)))
    by_kind (Ok Ended) is = stays (λ b e. absurd (cc (is, e)))
    by_kind (Err e) is = stays (λ b got. absurd (cc (is, got)))

-- the state after a commit of an open batch
pub after-committed : (s : State) (solved : SolvedBatch) → IsOpen s solved.batch
    → after_entry s (committed_entry s solved) ≡ after_commit solved.batch solved.answer.seating s
after-committed s solved = committed-state s solved.batch (seating_cost s.roads solved.batch solved.answer.seating) solved.answer.seating
    solved.answer.prices solved.answer.pays (outcomes_of solved.batch solved.answer.seating s)

-- the open batches of a board that closed one
pub batches-committed : (old new : Recorded) (solved : SolvedBatch) → new.start ≡ old.start → IsOpen (state_of old) solved.batch
    → new.history ≡ old.history ++ committed_entry (state_of old) solved ∷ []
    → (state_of new).batches ≡ filter (λ other. not (is_batch solved.batch.desk solved.batch.number other)) (state_of old).batches
batches-committed old new solved start held history =
    let s : State = state_of old in
    let batch : BatchCopy = solved.batch in
    ap (λ (t : State). t.batches) (state-push old new (committed_entry s solved) start history ∙ after-committed s solved held)
    ∙ ap (filter (λ other. not (is_batch batch.desk batch.number other)))
    (stays-outcomes batch solved.answer.seating s batch.requests s).batches

pub batches-abandoned : (old new : Recorded) (batch : BatchCopy) → new.start ≡ old.start → IsOpen (state_of old) batch
    → new.history ≡ old.history ++ abandoned_entry batch ∷ []
    → (state_of new).batches ≡ filter (λ other. not (is_batch batch.desk batch.number other)) (state_of old).batches
batches-abandoned old new batch start held history =
    ap (λ (t : State). t.batches) (state-push old new (abandoned_entry batch) start history ∙ abandoned-state (state_of old) batch held ∙ abandon-is (state_of old) batch)

-- batches of other desks are open after a commit, and after a batch was given up
pub open-committed : (old new : Recorded) (solved : SolvedBatch) → new.start ≡ old.start → IsOpen (state_of old) solved.batch
    → new.history ≡ old.history ++ committed_entry (state_of old) solved ∷ []
    → (b : BatchCopy) → IsOpen (state_of old) b → b.desk ≢ solved.batch.desk → IsOpen (state_of new) b
open-committed old new solved start held history b is other =
    open-other (state_of old) (state_of new) solved.batch (batches-committed old new solved start held history) b other is

pub open-abandoned : (old new : Recorded) (batch : BatchCopy) → new.start ≡ old.start → IsOpen (state_of old) batch
    → new.history ≡ old.history ++ abandoned_entry batch ∷ []
    → (b : BatchCopy) → IsOpen (state_of old) b → b.desk ≢ batch.desk → IsOpen (state_of new) b
open-abandoned old new batch start held history b is other =
    open-other (state_of old) (state_of new) batch (batches-abandoned old new batch start held history) b other is

-- a batch that is open can be priced over the board's map
pub priceable : (board : Recorded) (desks : ℕ) (batch : BatchCopy) → IsStart board.start → IsLegal board.feeds board.desks board.start board.history
    → IsOpenBatch desks (state_of board) batch → IsPriceable board.start.roads batch
priceable board desks batch begins legal is =
    let c = consistent board.feeds board.desks board.start board.history begins legal in
    let in_time : batch.time ≤ (state_of board).clock = is.in_time in
    let clock : (state_of board).clock ≤ 1000000000 = c.clock_fits in
    subst (λ (r : RoadMap). IsPriceable r batch) c.roads_stay (record { in_time = omega arith; over_map = is.over_map; lawful = is.lawful })

-- and so can the open batch of a number
pub open-priceable : (board : Recorded) (desk number : ℕ) (batch : BatchCopy) → IsStart board.start
    → IsLegal board.feeds board.desks board.start board.history → open_batch_numbered (state_of board) desk number ≡ Some batch
    → IsPriceable board.start.roads batch
open-priceable board desk number batch begins legal held =
    let s : State = state_of board in
    let c = consistent board.feeds board.desks board.start board.history begins legal in
    let (there, _) = found_among (is_batch desk number) s.batches batch held in
    priceable board board.desks batch begins legal (of_all (IsOpenBatch board.desks s) s.batches batch c.batches_fit there)

-- a batch that is kept stays kept
pub still-kept : (desk : ℕ) (s t : State) (kept : Option BatchCopy) → ((b : BatchCopy) → IsOpen s b → IsOpen t b)
    → IfSome kept (λ (b : BatchCopy). (b.desk ≡ desk) × IsOpen s b) → IfSome kept (λ (b : BatchCopy). (b.desk ≡ desk) × IsOpen t b)
still-kept desk s t None stays is = tt
still-kept desk s t (Some b) stays (desk_is, held) = (desk_is, stays b held)

-- a feed has given no more commands than there are entries
pub fed-le : (feed : ℕ) (entries : List Entry) → length (fed_commands feed entries) ≤ length entries
unfolding entries_of
fed-le feed entries =
    omega (
      arith,
      length-filter_map-le (λ (entry : Entry). command_of entry.event) (filter (λ (entry : Entry). is_actor entry.actor (Feed feed)) entries),
      length-filter-le (λ (entry : Entry). is_actor entry.actor (Feed feed)) entries,
    )

-- what holds of an open batch
pub open-batch : (s : State) (desk number : ℕ) (P : BatchCopy → Type 0) → All P s.batches → IfSome (open_batch_numbered s desk number) P
open-batch s desk number P each =
    elim (open_batch_numbered s desk number) as (λ o. open_batch_numbered s desk number ≡ o → IfSome o P) [
      | None ↦ λ _. tt
      | Some batch ↦ λ is. of_all P s.batches batch each (found_among (is_batch desk number) s.batches batch is).0
    ] refl
