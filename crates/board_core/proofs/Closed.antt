-- Batches that are no longer open.
use Rattle.board_core.proofs.Common.{◌≡◌, ℕ, ◌+◌, ◌≤◌, Bool, true, false, not, ◌&&◌, cond, inl, inr, List, [], ◌∷◌, ◌++◌, eqb, refl, sym, ◌∙◌, ap, subst, length-append, arith, ◌==◌, Option, Some, None, option_map, find, IsSome, IsSomeAnd, filter, list_any, eqb-true, eq-eqb, list_any-append, or-true, same_Some, Desk, Entry, Committed, Outcome, Seat, IsOneOrTwo, with_request_states, standing_rides, without_batch, after_outcomes, is_abandoned, after_entry, IsLegalEntry, CommitsBatch, BatchCopy, State, is_batch, open_batch_of, open_batch_numbered, Among, found_among, of_all, replay-push, IsOpenBatch, is_fed, IsFedSpelled, found_by, committed-state, abandoned-state, Desks, Service, Given, places_kept, with_closed, with_given_up, Mirrors, IsBoard, at_number, one_if_some, Recorded, state_of, abandoned_entry, state_at}
use Rattle.ride_model.specs.declared.reply.RequestState.TheVariants.{Waiting}
use Rattle.board_core.proofs.FedEntries.{within-push, none-of_others}
use Rattle.board_core.proofs.Numbering.{at_number-with, count-with}
use Rattle.board_core.proofs.Boards.{board-consistent, pushed, recorded-push, abandoned-push}

-- an open batch, with what is known of it
pub record OpenFacts (desks : ℕ) (s : State) (batch : BatchCopy) : Type 0 where
  pub there : Among batch s.batches
  pub of_desk : open_batch_of s batch.desk ≡ Some batch
  pub fine : IsOpenBatch desks s batch

pub open-facts : (setup : Given) (service : Service) (kept : Desks) (capacity : ℕ) (board : Recorded) (batch : BatchCopy)
    → IsBoard setup service kept capacity board
    → open_batch_numbered (state_of board) batch.desk batch.number ≡ Some batch → OpenFacts board.desks (state_of board) batch
open-facts setup service kept capacity board batch is open_is =
    let s : State = state_of board in
    let c = board-consistent setup service kept capacity board is in
    let (there, _) = found_among (is_batch batch.desk batch.number) s.batches batch open_is in
    record {
      there = there;
      of_desk = found_by (λ (b : BatchCopy). b.desk) s.batches batch c.desks_differ there;
      fine = of_all (IsOpenBatch board.desks s) s.batches batch c.batches_fit there;
    }

-- what is found by desk among batches without one
pub find-without : (desk number d : ℕ) (batches : List BatchCopy) → ((b : BatchCopy) → Among b batches → eqb b.desk desk ≡ true → eqb b.number number ≡ true)
    → find (λ (b : BatchCopy). b.desk == d) (filter (λ other. not (is_batch desk number other)) batches)
    ≡ cond (eqb desk d) None (find (λ (b : BatchCopy). b.desk == d) batches)
find-without desk number d [] same = nothing (eqb desk d)
  where
    nothing : (t : Bool) → let none : Option BatchCopy = None in none ≡ cond t none none
    nothing true = refl
    nothing false = refl
find-without desk number d (b ∷ batches) same =
    by_test (find-without desk number d batches (λ x there. same x (inr there))) (eqb b.desk desk) refl
  where
    dropped : b.desk ≡ desk → (t : Bool) → eqb desk d ≡ t
        → cond (eqb desk d) None (find (λ (x : BatchCopy). x.desk == d) batches)
        ≡ cond (eqb desk d) None (cond (eqb b.desk d) (Some b) (find (λ (x : BatchCopy). x.desk == d) batches))
    dropped is true here = rw here refl
    dropped is false here = rw (here, ap (λ k. eqb k d) is ∙ here) refl

    kept : eqb b.desk desk ≡ false → (t : Bool) → eqb desk d ≡ t
        → cond (eqb b.desk d) (Some b) (cond (eqb desk d) None (find (λ (x : BatchCopy). x.desk == d) batches))
        ≡ cond (eqb desk d) None (cond (eqb b.desk d) (Some b) (find (λ (x : BatchCopy). x.desk == d) batches))
    kept other true here = rw (here, ap (eqb b.desk) (sym (eqb-true desk d here)) ∙ other) refl
    kept other false here = rw here refl

    by_test : find (λ (x : BatchCopy). x.desk == d) (filter (λ other. not (is_batch desk number other)) batches)
        ≡ cond (eqb desk d) None (find (λ (x : BatchCopy). x.desk == d) batches)
        → (t : Bool) → eqb b.desk desk ≡ t
        → find (λ (x : BatchCopy). x.desk == d) (cond (not (eqb b.desk desk && eqb b.number number))
        (b ∷ filter (λ other. not (is_batch desk number other)) batches) (filter (λ other. not (is_batch desk number other)) batches))
        ≡ cond (eqb desk d) None (cond (eqb b.desk d) (Some b) (find (λ (x : BatchCopy). x.desk == d) batches))
    by_test later true is =
        rw (is, same b (inl refl) is) (later ∙ dropped (eqb-true b.desk desk is) (eqb desk d) refl)
    by_test later false other =
        rw other (ap (λ o. cond (eqb b.desk d) (Some b) o) later ∙ kept other (eqb desk d) refl)

-- what is kept mirrors the state after a batch was closed
mirrors-closed : (setup : Given) (service after : Service) (kept : Desks) (given_up : Bool) (desks : ℕ) (s next : State) (batch : BatchCopy)
    (old new : List Entry)
    → Mirrors setup service kept s old → desks ≤ 2 → OpenFacts desks s batch
    → ((b : BatchCopy) → Among b s.batches → eqb b.desk batch.desk ≡ true → eqb b.number batch.number ≡ true)
    → next ≡ without_batch batch (state_at setup after s) → given_up ≡ list_any (λ (entry : Entry). is_abandoned entry.event) new
    → Mirrors setup after (record (with_closed batch.desk kept) { given_up = given_up }) next new
mirrors-closed setup service after kept given_up desks s next batch old new m few facts same is given =
    subst (λ t. Mirrors setup after (record (with_closed batch.desk kept) { given_up = given_up }) t new) (sym is) (record {
      state_is = refl;
      opened_is = m.opened_is;
      open_are = λ desk.
          ap (option_map (λ (b : BatchCopy). b.number)) (find-without batch.desk batch.number desk s.batches same)
          ∙ number_in (eqb batch.desk desk) (open_batch_of s desk)
          ∙ ap (cond (eqb batch.desk desk) None) (m.open_are desk)
          ∙ sym (at_number-with batch.desk desk None kept.batches (facts.fine.desk_in.0, omega (arith, facts.fine.desk_in.1, few)));
      ended_are = m.ended_are;
      whole_are = m.whole_are;
      given_up_is = given;
    })
  where
    number_in : (t : Bool) (o : Option BatchCopy)
        → option_map (λ (b : BatchCopy). b.number) (cond t None o) ≡ cond t None (option_map (λ (b : BatchCopy). b.number) o)
    number_in true o = refl
    number_in false o = refl

-- a place is kept for what closes an open batch
pub place-kept : (setup : Given) (service : Service) (kept : Desks) (capacity : ℕ) (board : Recorded) (batch : BatchCopy)
    → IsBoard setup service kept capacity board
    → open_batch_numbered (state_of board) batch.desk batch.number ≡ Some batch
    → places_kept (with_closed batch.desk kept) + 1 ≡ places_kept kept
place-kept setup service kept capacity board batch is open_is =
    let facts = open-facts setup service kept capacity board batch is open_is in
    let value : at_number kept.batches batch.desk ≡ Some batch.number
    = sym (is.mirrors.open_are batch.desk) ∙ ap (option_map (λ (b : BatchCopy). b.number)) facts.of_desk in
    let fits : IsOneOrTwo batch.desk = (facts.fine.desk_in.0, omega (arith, facts.fine.desk_in.1, is.recorded.desks_fit.1)) in
    omega (arith, count-with batch.desk None kept.batches fits, ap one_if_some value)

-- a board goes on by what closes a batch
pub board-closed : (setup : Given) (service after : Service) (kept : Desks) (given_up : Bool) (capacity room : ℕ) (board : Recorded) (batch : BatchCopy)
    (entry : Entry)
    → IsBoard setup service kept capacity board
    → open_batch_numbered (state_of board) batch.desk batch.number ≡ Some batch
    → after_entry (state_of board) entry ≡ without_batch batch (state_at setup after (state_of board))
    → IsLegalEntry board.feeds board.desks (state_of board) entry → is_fed entry.event ≡ false → IsFedSpelled board.start.settings.log entry.event
    → given_up ≡ list_any (λ (e : Entry). is_abandoned e.event) (board.history ++ entry ∷ []) → capacity ≤ room
    → IsBoard setup after (record (with_closed batch.desk kept) { given_up = given_up }) room (pushed board entry board.spare)
board-closed setup service after kept given_up capacity room board batch entry is open_is stepped legal not_fed spelled given rises =
    let s : State = state_of board in
    let c = board-consistent setup service kept capacity board is in
    let facts = open-facts setup service kept capacity board batch is open_is in
    record {
      ids_are = is.ids_are;
      recorded = recorded-push board entry board.spare is.recorded legal
          (within-push board.start.settings.log board.history entry is.recorded.fed_within spelled
          (λ feed. omega (arith, none-of_others entry not_fed feed, is.recorded.fed_within.few feed)));
      mirrors = mirrors-closed setup service after kept given_up board.desks s (state_of (pushed board entry board.spare)) batch board.history
          (board.history ++ entry ∷ []) is.mirrors is.recorded.desks_fit.1 facts
          (λ b there here. same_number b (same_Some b batch (sym (found_by (λ (x : BatchCopy). x.desk) s.batches b c.desks_differ there)
          ∙ ap (open_batch_of s) (eqb-true b.desk batch.desk here) ∙ facts.of_desk)))
          (replay-push board.start board.history entry ∙ stepped) given;
      room = omega (
        arith,
        is.room,
        rises,
        place-kept setup service kept capacity board batch is open_is,
        length-append board.history (entry ∷ []),
      );
    }
  where
    same_number : (b : BatchCopy) → b ≡ batch → eqb b.number batch.number ≡ true
    same_number b equal = eq-eqb b.number batch.number (ap (λ (x : BatchCopy). x.number) equal)

-- a board goes on by a batch that is given up
pub board-abandoned : (setup : Given) (service after : Service) (kept : Desks) (capacity room : ℕ) (board : Recorded) (batch : BatchCopy)
    → IsBoard setup service kept capacity board
    → open_batch_numbered (state_of board) batch.desk batch.number ≡ Some batch
    → with_request_states Waiting (standing_rides batch (state_at setup service (state_of board))) (state_at setup service (state_of board))
    ≡ state_at setup after (state_of board)
    → capacity ≤ room
    → IsBoard setup after (with_given_up batch.desk kept) room (pushed board (abandoned_entry batch) board.spare)
board-abandoned setup service after kept capacity room board batch is open_is released rises =
    let s : State = state_of board in
    board-closed setup service after kept true capacity room board batch (abandoned_entry batch) is open_is
    (abandoned-state s batch open_is
    ∙ ap (without_batch batch) (ap (λ t. with_request_states Waiting (standing_rides batch t) t) is.mirrors.state_is ∙ released))
    (subst IsSome (sym open_is) refl) refl tt
    (sym (list_any-append (λ (e : Entry). is_abandoned e.event) board.history (abandoned_entry batch ∷ [])
    ∙ or-true (list_any (λ (e : Entry). is_abandoned e.event) board.history))) rises

-- a board goes on by a commit
pub board-committed : (setup : Given) (service after : Service) (kept : Desks) (capacity room : ℕ) (board : Recorded) (batch : BatchCopy)
    (cost : ℕ) (seats : List Seat) (prices pays : List (ℕ × ℕ)) (outcomes : List (ℕ × Outcome))
    → IsBoard setup service kept capacity board
    → open_batch_numbered (state_of board) batch.desk batch.number ≡ Some batch
    → CommitsBatch (state_of board) batch cost seats prices pays outcomes
    → after_outcomes batch seats (state_of board) batch.requests (state_at setup service (state_of board)) ≡ state_at setup after (state_of board)
    → capacity ≤ room
    → IsBoard setup after (with_closed batch.desk kept) room
    (pushed board (record { actor = Desk batch.desk; event = Committed batch.number cost seats prices pays outcomes }) board.spare)
board-committed setup service after kept capacity room board batch cost seats prices pays outcomes is open_is commits settled rises =
    let s : State = state_of board in
    let entry : Entry = record { actor = Desk batch.desk; event = Committed batch.number cost seats prices pays outcomes } in
    board-closed setup service after kept kept.given_up capacity room board batch entry is open_is
    (committed-state s batch cost seats prices pays outcomes open_is
    ∙ ap (without_batch batch) (ap (after_outcomes batch seats s batch.requests) is.mirrors.state_is ∙ settled))
    (subst (λ o. IsSomeAnd o (λ b. CommitsBatch s b cost seats prices pays outcomes)) (sym open_is) commits) refl tt
    (is.mirrors.given_up_is ∙ sym (abandoned-push board.history entry refl)) rises
