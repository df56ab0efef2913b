use Rattle.fleet_board.proofs.Common.{◌+◌, refl, sym, ap, subst, ◌∙◌, State, IsTableOf, Recorded, state_of, committed_entry, knowledge, Known, AddsEntry}
use Rattle.fleet_board.proofs.Actors.{DeskFound, desk-found, desk-added}
use Rattle.fleet_board.proofs.Batches.{still-open, none-committed, certified, standing}
use Rattle.fleet_board.proofs.Points.{Added, added, adds, point-added, before-added}
use Rattle.fleet_board.proofs.shared.SharedBoard.commit.Given as given
use Rattle.fleet_board.proofs.shared.SharedBoard.commit.Goals as goal

pub commit-requires-clause-is_open : goal.commit-requires-clause-is_open
commit-requires-clause-is_open g c =
    let k : Known = knowledge c.args.pass.now in
    let board = c.take_turn-kept.result.board in
    still-open k board c.args.solved.batch (desk-found k board c.requires.point c.requires.desk c.take_turn-kept.ensures.finds) c.requires.is_open

pub commit-requires-clause-table : goal.commit-requires-clause-table
commit-requires-clause-table g c =
    subst (λ (r : Recorded). IsTableOf r.start.roads c.args.solved.batch c.args.solved.table) c.take_turn-kept.ensures.finds.began c.requires.table

-- the commit was added
was_added : (g : given.Over) (c : goal.After-leave_with g)
    → Added (knowledge c.args.pass.now) (knowledge c.leave_with.new.pass) c.take_turn-kept.result.board c.commit.new.self
    (committed_entry (state_of c.take_turn-kept.result.board) c.args.solved)
was_added g c =
    let k : Known = knowledge c.args.pass.now in
    let found = desk-found k c.take_turn-kept.result.board c.requires.point c.requires.desk c.take_turn-kept.ensures.finds in
    added k (knowledge c.take_turn-kept.new.pass) (knowledge c.leave_with.new.pass) c.take_turn-kept.result.board c.commit.new.self
    (committed_entry (state_of c.take_turn-kept.result.board) c.args.solved) c.take_turn-kept.ensures.finds c.requires.pass.1
    c.take_turn-kept.ensures.knows c.commit.ensures.others c.commit.ensures.entry
    (ap (λ d. d + 2) c.requires.is_open.of_desk ∙ found.number_is) c.leave_with.ensures.told c.leave_with.ensures.knows

-- what the turn found of the desk
desk_found : (g : given.Over) (c : goal.After-leave_with g) → DeskFound (knowledge c.args.pass.now) c.take_turn-kept.result.board
desk_found g c =
    desk-found (knowledge c.args.pass.now) c.take_turn-kept.result.board c.requires.point c.requires.desk c.take_turn-kept.ensures.finds

pub returns-clause-point : goal.returns-clause-point
returns-clause-point g c = point-added _ _ _ _ _ (was_added g c) c.requires.point

pub returns-clause-desk : goal.returns-clause-desk
returns-clause-desk g c = desk-added _ _ _ _ _ (was_added g c) c.requires.point c.requires.desk refl

pub returns-clause-none_open : goal.returns-clause-none_open
returns-clause-none_open g c = none-committed _ _ _ _ c.args.solved (was_added g c) (desk_found g c) c.requires.is_open

pub returns-clause-entry : goal.returns-clause-entry
returns-clause-entry g c =
    let k : Known = knowledge c.args.pass.now in
    let after : Known = knowledge c.leave_with.new.pass in
    subst (λ (s : State). AddsEntry k after (committed_entry s c.args.solved)) (sym (before-added _ _ _ _ _ (was_added g c)))
    (adds _ _ _ _ _ (was_added g c))

pub returns-clause-certified : goal.returns-clause-certified
returns-clause-certified g c = certified _ _ _ _ c.args.solved (was_added g c) (desk_found g c) c.requires.is_open

pub returns-clause-standing : goal.returns-clause-standing
returns-clause-standing g c = standing _ _ _ _ c.args.solved (was_added g c) (desk_found g c) c.requires.is_open
