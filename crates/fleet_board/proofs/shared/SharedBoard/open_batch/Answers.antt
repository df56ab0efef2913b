use Rattle.fleet_board.proofs.Common.{◌≡◌, ℕ, ◌-◌, refl, sym, ap, subst, ◌∙◌, Ok, IsFalse, is_some, Desk, IsNumbered, has_ended, open_batch_of, Idle, Ended, Recorded, state_of, opened_entry, after_enter, knowledge, Known, desk_of}
use Rattle.fleet_board.proofs.Actors.{DeskFound, desk-found, desk-added, desk-looked}
use Rattle.fleet_board.proofs.Batches.{GotBatch, got-batch, told-none, opens, none_opened, none-looked}
use Rattle.fleet_board.proofs.Points.{Added, Looked, added, looked, grown, point-added, point-looked}
use Rattle.fleet_board.proofs.shared.SharedBoard.open_batch.Given as given
use Rattle.fleet_board.proofs.shared.SharedBoard.open_batch.Goals as goal

-- the desk of the pass
number-desk : (k entered : Known) (board : Recorded) (number : ℕ) → entered ≡ after_enter k board.history → number ≡ entered.number → number - 2 ≡ desk_of k
number-desk k entered board number enters is = ap (λ n. n - 2) (is ∙ ap (λ (x : Known). x.number) enters)

pub open_batch-requires-clause-desk : goal.open_batch-requires-clause-desk
open_batch-requires-clause-desk g c =
    let k : Known = knowledge c.args.pass.now in
    let board = c.take_turn-kept.result.board in
    let desk_is = number-desk k (knowledge c.take_turn-kept.new.pass) board c.number.result c.take_turn-kept.ensures.knows c.number.ensures in
    subst (IsNumbered board.desks) (sym desk_is)
    (desk-found k board c.requires.point c.requires.desk c.take_turn-kept.ensures.finds).numbered

pub open_batch-requires-clause-not_ended : goal.open_batch-requires-clause-not_ended
open_batch-requires-clause-not_ended g c =
    let k : Known = knowledge c.args.pass.now in
    let board = c.take_turn-kept.result.board in
    let desk_is = number-desk k (knowledge c.take_turn-kept.new.pass) board c.number.result c.take_turn-kept.ensures.knows c.number.ensures in
    subst (λ d. IsFalse (has_ended (state_of board) (Desk d))) (sym desk_is)
    (desk-found k board c.requires.point c.requires.desk c.take_turn-kept.ensures.finds).lives

pub open_batch-requires-clause-none_open : goal.open_batch-requires-clause-none_open
open_batch-requires-clause-none_open g c =
    let k : Known = knowledge c.args.pass.now in
    let board = c.take_turn-kept.result.board in
    let desk_is = number-desk k (knowledge c.take_turn-kept.new.pass) board c.number.result c.take_turn-kept.ensures.knows c.number.ensures in
    ap (λ d. is_some (open_batch_of (state_of board) d)) desk_is
    ∙ ap is_some (desk-found k board c.requires.point c.requires.desk c.take_turn-kept.ensures.finds).same_open
    ∙ c.requires.none_open

pub leave_with-requires-clause-grown : goal.leave_with-requires-clause-grown
leave_with-requires-clause-grown g c =
    let k : Known = knowledge c.args.pass.now in
    let old = c.take_turn-kept.result.board in
    let found = desk-found k old c.requires.point c.requires.desk c.take_turn-kept.ensures.finds in
    let desk_is = number-desk k (knowledge c.take_turn-kept.new.pass) old c.number.result c.take_turn-kept.ensures.knows c.number.ensures in
    let got = got-batch k old c.open_batch.new.self (c.number.result - 2) c.open_batch.result c.in-Ok-Batch.batch found c.requires.none_open desk_is
    c.open_batch.ensures.others (c.in-Ok-Batch.is ∙ ap Ok c.in-Ok-Batch.field-0-is) c.open_batch.ensures.opening
    c.open_batch.ensures.entry c.open_batch.ensures.no_entry in
    grown k (knowledge c.take_turn-kept.new.pass) old c.open_batch.new.self (opened_entry c.in-Ok-Batch.batch) c.take_turn-kept.ensures.knows
    got.made got.history

-- what the turn found of the desk, and what the desk got
desk_found : (g : given.Over) (c : goal.After-leave_with g) → DeskFound (knowledge c.args.pass.now) c.take_turn-kept.result.board
desk_found g c =
    desk-found (knowledge c.args.pass.now) c.take_turn-kept.result.board c.requires.point c.requires.desk c.take_turn-kept.ensures.finds

got : (g : given.Over) (c : goal.After-leave_with g)
    → GotBatch (knowledge c.args.pass.now) c.take_turn-kept.result.board c.open_batch.new.self c.in-Ok-Batch.batch
got g c =
    let k : Known = knowledge c.args.pass.now in
    let desk_is = number-desk k (knowledge c.take_turn-kept.new.pass) c.take_turn-kept.result.board c.number.result c.take_turn-kept.ensures.knows
    c.number.ensures in
    got-batch k c.take_turn-kept.result.board c.open_batch.new.self (c.number.result - 2) c.open_batch.result c.in-Ok-Batch.batch
    (desk_found g c) c.requires.none_open desk_is c.open_batch.ensures.others (c.in-Ok-Batch.is ∙ ap Ok c.in-Ok-Batch.field-0-is)
    c.open_batch.ensures.opening c.open_batch.ensures.entry c.open_batch.ensures.no_entry

-- the opening was added
was_added : (g : given.Over) (c : goal.After-leave_with g)
    → Added (knowledge c.args.pass.now) (knowledge c.leave_with.new.pass) c.take_turn-kept.result.board c.open_batch.new.self
    (opened_entry c.in-Ok-Batch.batch)
was_added g c =
    added (knowledge c.args.pass.now) (knowledge c.take_turn-kept.new.pass) (knowledge c.leave_with.new.pass) c.take_turn-kept.result.board
    c.open_batch.new.self (opened_entry c.in-Ok-Batch.batch) c.take_turn-kept.ensures.finds c.requires.pass.1 c.take_turn-kept.ensures.knows
    c.open_batch.ensures.others (got g c).history (got g c).made c.leave_with.ensures.told c.leave_with.ensures.knows

pub returns-in-Ok-Batch-clause-point : goal.returns-in-Ok-Batch-clause-point
returns-in-Ok-Batch-clause-point g c = point-added _ _ _ _ _ (was_added g c) c.requires.point

pub returns-in-Ok-Batch-clause-desk : goal.returns-in-Ok-Batch-clause-desk
returns-in-Ok-Batch-clause-desk g c = desk-added _ _ _ _ _ (was_added g c) c.requires.point c.requires.desk refl

pub returns-in-Ok-Batch-clause-opening : goal.returns-in-Ok-Batch-clause-opening
returns-in-Ok-Batch-clause-opening g c =
    opens _ _ _ _ c.in-Ok-Batch.batch (was_added g c) (desk_found g c) (got g c).next (got g c).open_now

-- none was opened, and nothing was added
idle : (g : given.Over) (c : goal.After-leave_same g)
    → Looked (knowledge c.args.pass.now) (knowledge c.leave_same.new.pass) c.take_turn-kept.result.board
idle g c =
    looked (knowledge c.args.pass.now) (knowledge c.take_turn-kept.new.pass) (knowledge c.leave_same.new.pass) c.take_turn-kept.result.board
    c.take_turn-kept.ensures.finds c.requires.pass.1 c.take_turn-kept.ensures.knows c.leave_same.ensures.pass

pub returns-in-Ok-Idle-clause-point : goal.returns-in-Ok-Idle-clause-point
returns-in-Ok-Idle-clause-point g c = point-looked _ _ _ (idle g c) c.requires.point

pub returns-in-Ok-Idle-clause-desk : goal.returns-in-Ok-Idle-clause-desk
returns-in-Ok-Idle-clause-desk g c = desk-looked _ _ _ (idle g c) c.requires.point c.requires.desk

pub returns-in-Ok-Idle-clause-opening : goal.returns-in-Ok-Idle-clause-opening
returns-in-Ok-Idle-clause-opening g c =
    let k : Known = knowledge c.args.pass.now in
    let old = c.take_turn-kept.result.board in
    none_opened _ _ _ Idle (idle g c) c.requires.point c.requires.desk c.requires.none_open
    (told-none k old (c.number.result - 2) c.open_batch.result Idle
    (number-desk k (knowledge c.take_turn-kept.new.pass) old c.number.result c.take_turn-kept.ensures.knows c.number.ensures)
    (c.in-Ok-Idle.is ∙ ap Ok c.in-Ok-Idle.field-0-is) c.open_batch.ensures.opening)

-- nor is one to come
ended : (g : given.Over) (c : goal.After-leave_same-in-Ok-Ended g)
    → Looked (knowledge c.args.pass.now) (knowledge c.leave_same-in-Ok-Ended.new.pass) c.take_turn-kept.result.board
ended g c =
    looked (knowledge c.args.pass.now) (knowledge c.take_turn-kept.new.pass) (knowledge c.leave_same-in-Ok-Ended.new.pass) c.take_turn-kept.result.board
    c.take_turn-kept.ensures.finds c.requires.pass.1 c.take_turn-kept.ensures.knows c.leave_same-in-Ok-Ended.ensures.pass

pub returns-in-Ok-Ended-clause-point : goal.returns-in-Ok-Ended-clause-point
returns-in-Ok-Ended-clause-point g c = point-looked _ _ _ (ended g c) c.requires.point

pub returns-in-Ok-Ended-clause-desk : goal.returns-in-Ok-Ended-clause-desk
returns-in-Ok-Ended-clause-desk g c = desk-looked _ _ _ (ended g c) c.requires.point c.requires.desk

pub returns-in-Ok-Ended-clause-opening : goal.returns-in-Ok-Ended-clause-opening
returns-in-Ok-Ended-clause-opening g c =
    let k : Known = knowledge c.args.pass.now in
    let old = c.take_turn-kept.result.board in
    none_opened _ _ _ Ended (ended g c) c.requires.point c.requires.desk c.requires.none_open
    (told-none k old (c.number.result - 2) c.open_batch.result Ended
    (number-desk k (knowledge c.take_turn-kept.new.pass) old c.number.result c.take_turn-kept.ensures.knows c.number.ensures)
    (c.in-Ok-Ended.is ∙ ap Ok c.in-Ok-Ended.field-0-is) c.open_batch.ensures.opening)

-- memory was wanting
wanting : (g : given.Over) (c : goal.After-leave_same-in-Err g)
    → Looked (knowledge c.args.pass.now) (knowledge c.leave_same-in-Err.new.pass) c.take_turn-kept.result.board
wanting g c =
    looked (knowledge c.args.pass.now) (knowledge c.take_turn-kept.new.pass) (knowledge c.leave_same-in-Err.new.pass) c.take_turn-kept.result.board
    c.take_turn-kept.ensures.finds c.requires.pass.1 c.take_turn-kept.ensures.knows c.leave_same-in-Err.ensures.pass

pub returns-in-Err-clause-point : goal.returns-in-Err-clause-point
returns-in-Err-clause-point g c = point-looked _ _ _ (wanting g c) c.requires.point

pub returns-in-Err-clause-desk : goal.returns-in-Err-clause-desk
returns-in-Err-clause-desk g c = desk-looked _ _ _ (wanting g c) c.requires.point c.requires.desk

pub returns-in-Err-clause-none_open : goal.returns-in-Err-clause-none_open
returns-in-Err-clause-none_open g c = none-looked _ _ _ (wanting g c) c.requires.point c.requires.desk c.requires.none_open
