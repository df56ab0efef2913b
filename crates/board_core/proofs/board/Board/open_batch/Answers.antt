use Rattle.board_core.proofs.Common.{◌≡◌, ◌+◌, List, [], ◌∷◌, ◌++◌, length, refl, sym, ◌∙◌, ap, subst, arith, vec_capacity, IsNone, IsFalse, Desk, Entry, Opened, InBatch, IsNumbered, versions_of, BatchCopy, start_state, has_ended, open_batch_of, ride_ids, IsOpenBatch, Given, IsBoard, with_opened, marked_in, Recorded, state_of, opened_entry, batch_at}
use Rattle.board_core.proofs.Boards.{board-in_order, few-opened}
use Rattle.board_core.proofs.Opened.{Opens, board-opened}
use Rattle.board_core.proofs.board.Board.open_batch.Goals as goal
use Rattle.board_core.proofs.board.Board.open_batch.Goals.{After-append}
use Rattle.board_core.proofs.OpenBatches.{same_got}

pub batch-requires-clause-fleet : goal.batch-requires-clause-fleet
batch-requires-clause-fleet c = (board-in_order _ _ _ _ _ c.self.invariant).fleet_fits

pub open-requires : goal.open-requires
open-requires c = few-opened _ _ _ _ _ c.self.invariant c.if-self.false

-- the board before the call, with a setup and other entries
abbrev with_given : After-append → Given → List Entry → Recorded
with_given c setup items = record {
  start = start_state setup.roads setup.settings c.self.inside.start;
  feeds = c.self.inside.feeds;
  desks = c.self.inside.desks;
  history = items;
  spare = c.self.inside.spare;
}

abbrev with_items : After-append → List Entry → Recorded
with_items c items = with_given c c.self.inside.setup items

-- the board opens its next batch
opens : (c : After-append) → Opens c.self.inside.setup c.put_in.new.self c.self.inside.kept (vec_capacity c.append.new.history)
    (with_items c c.self.inside.history.items) c.args.desk c.in_ok-batch.batch
opens c =
    let inside = c.self.inside in
    let batch : BatchCopy = c.in_ok-batch.batch in
    let back : c.args.self.now ≡ with_items c inside.history.items = sym c.self.view_is in
    let ids : c.as_slice.result.now ≡ ride_ids batch.requests
    = c.as_slice.ensures.value ∙ c.in_ok-ids.ensures ∙ ap ride_ids c.requests.ensures.requests in
    let after_is : c.put_in.new.self ≡ record inside.service { requests = marked_in (InBatch batch.number) (ride_ids batch.requests) inside.service.requests }
    = c.put_in.ensures.others
    ∙ ap (λ requests. record inside.service { requests = requests })
    (c.put_in.ensures.requests
    ∙ ap (λ is. marked_in (InBatch c.number.result) is inside.service.requests) ids
    ∙ ap (λ number. marked_in (InBatch number) (ride_ids batch.requests) inside.service.requests) c.number.ensures) in
    board-opened inside.setup inside.service c.put_in.new.self inside.kept (vec_capacity inside.history) (vec_capacity c.append.new.history)
    (with_items c inside.history.items) c.args.desk batch c.self.invariant
    (subst (λ (b : Recorded). IsNumbered b.desks c.args.desk) back c.requires.desk)
    (subst (λ (b : Recorded). IsFalse (has_ended (state_of b) (Desk c.args.desk))) back c.requires.not_ended)
    (subst (λ (b : Recorded). IsNone (open_batch_of (state_of b) c.args.desk)) back c.requires.none_open)
    c.if-self.false
    (c.in_ok-batch.ensures ∙ ap (λ (setup : Given). batch_at setup inside.service (inside.kept.opened + 1) c.args.desk) c.look.ensures)
    after_is
    (omega (
      arith,
      c.in_ok-reserve.ensures.ok,
      c.reserve.new.self.ok.0,
      ap length c.reserve.ensures.items,
      c.append.ensures.capacity,
      c.places_kept.ensures.places,
    ))

-- the entry of the opening was appended
items-are : (c : After-append) → c.self.inside.history.items ++ opened_entry c.in_ok-batch.batch ∷ [] ≡ c.append.new.history.items
items-are c =
    let batch : BatchCopy = c.in_ok-batch.batch in
    let desk : batch.desk ≡ c.args.desk = ap (λ (b : BatchCopy). b.desk) c.in_ok-batch.ensures in
    let requests : ride_ids batch.requests ≡ c.of.result
    = sym (c.of.ensures ∙ c.in_ok-ids.ensures ∙ ap ride_ids c.requests.ensures.requests) in
    let plans : versions_of batch.vehicles ≡ c.of-2.result
    = sym (c.of-2.ensures ∙ c.in_ok-plans.ensures ∙ ap versions_of (c.vehicles-2.ensures.items ∙ c.vehicles.ensures)) in
    (λ i. sym c.reserve.ensures.items i
    ++ (record { actor = Desk (desk i); event = Opened (sym c.number-2.ensures i) (sym c.time.ensures i) (requests i) (plans i) }) ∷ [])
    ∙ sym c.append.ensures.items

pub invariant_of-self-2 : goal.invariant_of-self-2
invariant_of-self-2 c =
    let inside = c.self.inside in
    let after = c.put_in.new.self in
    let room = vec_capacity c.append.new.history in
    let items = c.append.new.history.items in
    subst (λ (setup : Given). IsBoard setup after c.open.new.self room (with_given c setup items)) (sym c.look.ensures)
    (subst (λ kept. IsBoard inside.setup after kept room (with_items c items)) (sym c.open.ensures)
    (subst (λ entries. IsBoard inside.setup after (with_opened c.args.desk inside.kept) room (with_items c entries)) (items-are c)
    (opens c).in_order))

pub returns-clause-no_entry : goal.returns-clause-no_entry
returns-clause-no_entry c = λ none. absurd (none c.in_ok-batch.batch refl)

pub returns-clause-open_now : goal.returns-clause-open_now
returns-clause-open_now c = λ batch is.
    let items = c.append.new.history.items in
    subst (λ (setup : Given). IsOpenBatch c.args.self.now.desks (state_of (with_given c setup items)) batch) (sym c.look.ensures)
    (subst (λ b. IsOpenBatch c.args.self.now.desks (state_of (with_items c items)) b) (same_got c.in_ok-batch.batch batch is)
    (subst (λ (b : Recorded). IsOpenBatch b.desks (state_of (with_items c items)) c.in_ok-batch.batch) c.self.view_is
    (subst (λ entries. IsOpenBatch c.self.inside.desks (state_of (with_items c entries)) c.in_ok-batch.batch) (items-are c) (opens c).open_now)))
