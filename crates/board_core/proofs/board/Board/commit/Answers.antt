use Rattle.board_core.proofs.Common.{◌≡◌, ℕ, List, [], ◌∷◌, ◌++◌, length, map, sym, ◌∙◌, ap, subst, arith, vec_capacity, Some, length-map, Desk, Entry, Committed, Outcome, Ride, was_cancelled, outcomes_of, after_outcomes, BatchCopy, vehicle_ids, State, start_state, open_batch_numbered, ride_ids, SolvedBatch, StandsSo, IsTableOf, IsBoard, with_closed, Recorded, state_of, committed_entry, state_at, IsCommitted, balance}
use Rattle.board_core.proofs.Boards.{board-in_order}
use Rattle.board_core.proofs.Closed.{open-facts, place-kept, board-committed}
use Rattle.board_core.proofs.Committed.{is-committed, none-settled, commits}
use Rattle.board_core.proofs.Settled.{earlier-ids}
use Rattle.board_core.proofs.board.Board.commit.Goals as goal
use Rattle.board_core.proofs.board.Board.commit.Goals.{After-as_slice-2, After-decide, After-append}

-- the board before the call, with other entries
abbrev with_items : After-as_slice-2 → List Entry → Recorded
with_items c items = record {
  start = start_state c.self.inside.setup.roads c.self.inside.setup.settings c.self.inside.start;
  feeds = c.self.inside.feeds;
  desks = c.self.inside.desks;
  history = items;
  spare = c.self.inside.spare;
}

-- the board before the call, and its state
abbrev old : After-as_slice-2 → Recorded
old c = with_items c c.self.inside.history.items

abbrev moment : After-as_slice-2 → State
moment c = state_of (old c)

-- the batch is open
opened : (c : After-as_slice-2) → open_batch_numbered (moment c) c.args.solved.batch.desk c.args.solved.batch.number ≡ Some c.args.solved.batch
opened c =
    subst (λ (b : Recorded). open_batch_numbered (state_of b) c.args.solved.batch.desk c.args.solved.batch.number ≡ Some c.args.solved.batch)
    (sym c.self.view_is) c.requires.is_open

vehicles-are : (c : After-as_slice-2) → (moment c).vehicles ≡ c.as_slice.result.now
vehicles-are c = ap (λ (s : State). s.vehicles) c.self.invariant.mirrors.state_is ∙ sym c.as_slice.ensures.value

-- the flags are those of the moment
flags-are : (c : After-as_slice-2) → c.as_slice-2.result.now ≡ map (was_cancelled (moment c)) (ride_ids c.args.solved.batch.requests)
flags-are c =
    c.as_slice-2.ensures.value
    ∙ c.cancelled-cancelled.ensures c.self.inside.setup (moment c)
    ∙ ap (λ (s : State). map (was_cancelled s) (ride_ids c.requests.result.now)) (sym c.self.invariant.mirrors.state_is)
    ∙ ap (λ rides. map (was_cancelled (moment c)) (ride_ids rides)) (c.requests.ensures.requests ∙ ap (λ (b : BatchCopy). b.requests) c.batch.ensures)

pub decide-requires-clause-same_vehicles : goal.decide-requires-clause-same_vehicles
decide-requires-clause-same_vehicles c =
    let at = (goal.at-decide-requires-clause-same_vehicles c).After-as_slice-2 in
    let facts = open-facts _ _ _ _ _ c.args.solved.batch c.self.invariant (opened at) in
    ap vehicle_ids (sym (vehicles-are at)) ∙ sym (earlier-ids c.args.solved.batch.vehicles (moment at).vehicles facts.fine.copies)

pub decide-requires-clause-one_flag_each : goal.decide-requires-clause-one_flag_each
decide-requires-clause-one_flag_each c =
    let at = (goal.at-decide-requires-clause-one_flag_each c).After-as_slice-2 in
    ap length (flags-are at)
    ∙ length-map (ride_ids c.args.solved.batch.requests) (was_cancelled (moment at))
    ∙ length-map c.args.solved.batch.requests (λ (ride : Ride). ride.id)

-- the outcomes are those of the moment
decided : (c : After-decide) (at : After-as_slice-2)
    → StandsSo c.args.solved.batch c.self.inside.service.clock c.as_slice.result.now c.as_slice-2.result.now (moment at)
    → c.decide.new.solved.answer.outcomes ≡ outcomes_of c.args.solved.batch c.args.solved.answer.seating (moment at)
decided c at stands = c.decide.ensures.decided (moment at) stands

stands : (at : After-as_slice-2)
    → StandsSo at.args.solved.batch at.self.inside.service.clock at.as_slice.result.now at.as_slice-2.result.now (moment at)
stands at = record {
  vehicles_stand = vehicles-are at;
  clock_is = ap (λ (s : State). s.clock) at.self.invariant.mirrors.state_is;
  cancelled_are = flags-are at;
}

-- the solved batch with other outcomes
abbrev with_outcomes : SolvedBatch → List (ℕ × Outcome) → SolvedBatch
with_outcomes solved outcomes = record solved { answer = record solved.answer { outcomes = outcomes } }

-- it is committed
committed : (at : After-as_slice-2) (outcomes : List (ℕ × Outcome))
    → outcomes ≡ outcomes_of at.args.solved.batch at.args.solved.answer.seating (moment at)
    → IsCommitted at.self.inside.setup (moment at) (with_outcomes at.args.solved outcomes)
committed at outcomes outcomes_are =
    is-committed at.self.inside.setup at.self.inside.service at.self.inside.kept (vec_capacity at.self.inside.history) (old at)
    (with_outcomes at.args.solved outcomes) at.self.invariant (opened at)
    (subst (λ (b : Recorded). IsTableOf b.start.roads at.args.solved.batch at.args.solved.table) (sym at.self.view_is) at.requires.table)
    at.answer-answer.ensures.certified outcomes_are

pub settle-requires-clause-fleet : goal.settle-requires-clause-fleet
settle-requires-clause-fleet c = c.places.ensures ∙ (board-in_order _ _ _ _ _ c.self.invariant).ids_are

pub settle-requires-clause-settled : goal.settle-requires-clause-settled
settle-requires-clause-settled c =
    let at = (goal.at-settle-requires-clause-settled c).After-as_slice-2 in
    let d = (goal.at-settle-requires-clause-settled c).After-decide in (
      c.self.inside.setup,
      moment at,
      subst (IsCommitted c.self.inside.setup (moment at)) (sym c.decide.ensures.others)
          (committed at c.decide.new.solved.answer.outcomes (decided d at (stands at))),
      none-settled c.self.inside.setup c.self.inside.service c.self.inside.kept (vec_capacity c.self.inside.history) (old at) c.decide.new.solved
          c.self.invariant,
    )

pub append-requires : goal.append-requires
append-requires c =
    omega (
      arith,
      place-kept _ _ _ _ _ c.args.solved.batch c.self.invariant (opened (goal.at-append-requires c).After-as_slice-2),
      c.self.invariant.room,
      c.self.inside.history.ok.0,
    )

-- the entry of the commit
abbrev entry_of : SolvedBatch → Entry
entry_of solved = record {
  actor = Desk solved.batch.desk;
  event = Committed solved.batch.number (balance solved) solved.answer.seating solved.answer.prices solved.answer.pays solved.answer.outcomes;
}

-- the entry was appended
items-are : (c : After-append) → c.self.inside.history.items ++ entry_of c.decide.new.solved ∷ [] ≡ c.append.new.history.items
items-are c =
    let desk : c.decide.new.solved.batch.desk ≡ c.desk-desk.result
    = sym (c.desk-desk.ensures ∙ ap (λ (b : BatchCopy). b.desk) c.batch-2.ensures) in
    (λ i. c.self.inside.history.items ++ (record { actor = Desk (desk i); event = sym c.commit_of.ensures i }) ∷ []) ∙ sym c.append.ensures.items

pub invariant_of-self : goal.invariant_of-self
invariant_of-self c =
    let at = (goal.at-invariant_of-self c).After-as_slice-2 in
    let d = (goal.at-invariant_of-self c).After-decide in
    let inside = c.self.inside in
    let outcomes = c.decide.new.solved.answer.outcomes in
    let solved : SolvedBatch = with_outcomes c.args.solved outcomes in
    let same : c.decide.new.solved ≡ solved = c.decide.ensures.others in
    let k = committed at outcomes (decided d at (stands at)) in
    let kept_is : with_closed c.args.solved.batch.desk inside.kept ≡ c.close.new.self
    = ap (λ (x : SolvedBatch). with_closed x.batch.desk inside.kept) (sym same)
    ∙ ap (λ desk. with_closed desk inside.kept) (sym (c.desk-desk.ensures ∙ ap (λ (b : BatchCopy). b.desk) c.batch-2.ensures))
    ∙ sym c.close.ensures in
    let none = none-settled inside.setup inside.service inside.kept (vec_capacity inside.history) (old at) c.decide.new.solved c.self.invariant in
    let settled = subst (λ (x : SolvedBatch). after_outcomes x.batch x.answer.seating (moment at) x.batch.requests (state_at inside.setup inside.service (moment at))
    ≡ state_at inside.setup c.settle.new.self (moment at)) same
    (c.settle.ensures inside.setup (moment at) (moment at) (subst (IsCommitted inside.setup (moment at)) (sym same) k) none) in
    let made = board-committed inside.setup inside.service c.settle.new.self inside.kept (vec_capacity inside.history)
    (vec_capacity c.append.new.history) (old at) solved.batch (balance solved) solved.answer.seating solved.answer.prices solved.answer.pays outcomes
    c.self.invariant (opened at)
    (commits inside.setup inside.service inside.kept (vec_capacity inside.history) (old at) solved c.self.invariant k)
    settled c.append.ensures.capacity in
    subst (λ kept. IsBoard inside.setup c.settle.new.self kept (vec_capacity c.append.new.history) (with_items at c.append.new.history.items)) kept_is
    (subst (λ items. IsBoard inside.setup c.settle.new.self (with_closed c.args.solved.batch.desk inside.kept) (vec_capacity c.append.new.history)
    (with_items at items)) (ap (λ (x : SolvedBatch). inside.history.items ++ entry_of x ∷ []) (sym same) ∙ items-are c) made)

pub returns-clause-entry : goal.returns-clause-entry
returns-clause-entry c =
    let at = (goal.at-returns-clause-entry c).After-as_slice-2 in
    let d = (goal.at-returns-clause-entry c).After-decide in
    let inside = c.self.inside in
    let outcomes = c.decide.new.solved.answer.outcomes in
    let solved : SolvedBatch = with_outcomes c.args.solved outcomes in
    let k = committed at outcomes (decided d at (stands at)) in
    let right = commits inside.setup inside.service inside.kept (vec_capacity inside.history) (old at) solved c.self.invariant k in
    sym (items-are c)
    ∙ ap (λ (x : SolvedBatch). inside.history.items ++ entry_of x ∷ []) c.decide.ensures.others
    ∙ (λ i. inside.history.items ++ (record {
      actor = Desk solved.batch.desk;
      event = Committed solved.batch.number (right.cost_is i) solved.answer.seating solved.answer.prices solved.answer.pays (right.outcomes_are i);
    }) ∷ [])
    ∙ ap (λ (b : Recorded). b.history ++ committed_entry (state_of b) c.args.solved ∷ []) c.self.view_is
