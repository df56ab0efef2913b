use Rattle.fleet_board.proofs.Common.{◌+◌, refl, ap, ◌∙◌, abandoned_entry, knowledge, Known}
use Rattle.fleet_board.proofs.Actors.{desk-found, desk-added}
use Rattle.fleet_board.proofs.Batches.{still-open, none-abandoned}
use Rattle.fleet_board.proofs.Points.{Added, added, adds, point-added}
use Rattle.fleet_board.proofs.shared.SharedBoard.abandon.Given as given
use Rattle.fleet_board.proofs.shared.SharedBoard.abandon.Goals as goal

pub abandon-requires : goal.abandon-requires
abandon-requires g c =
    let k : Known = knowledge c.args.pass.now in
    let board = c.take_turn-kept.result.board in
    record {
      is_open = still-open k board c.args.batch (desk-found k board c.requires.point c.requires.desk c.take_turn-kept.ensures.finds) c.requires.is_open;
    }

-- the entry was added
was_added : (g : given.Over) (c : goal.After-leave_with g)
    → Added (knowledge c.args.pass.now) (knowledge c.leave_with.new.pass) c.take_turn-kept.result.board c.abandon.new.self
    (abandoned_entry c.args.batch)
was_added g c =
    let k : Known = knowledge c.args.pass.now in
    let found = desk-found k c.take_turn-kept.result.board c.requires.point c.requires.desk c.take_turn-kept.ensures.finds in
    added k (knowledge c.take_turn-kept.new.pass) (knowledge c.leave_with.new.pass) c.take_turn-kept.result.board c.abandon.new.self
    (abandoned_entry c.args.batch) c.take_turn-kept.ensures.finds c.requires.pass.1
    c.take_turn-kept.ensures.knows c.abandon.ensures.others c.abandon.ensures.entry
    (ap (λ d. d + 2) c.requires.is_open.of_desk ∙ found.number_is) c.leave_with.ensures.told c.leave_with.ensures.knows

pub returns-clause-point : goal.returns-clause-point
returns-clause-point g c = point-added _ _ _ _ _ (was_added g c) c.requires.point

pub returns-clause-desk : goal.returns-clause-desk
returns-clause-desk g c = desk-added _ _ _ _ _ (was_added g c) c.requires.point c.requires.desk refl

pub returns-clause-none_open : goal.returns-clause-none_open
returns-clause-none_open g c =
    none-abandoned _ _ _ _ c.args.batch (was_added g c)
    (desk-found (knowledge c.args.pass.now) c.take_turn-kept.result.board c.requires.point c.requires.desk c.take_turn-kept.ensures.finds)
    c.requires.is_open

pub returns-clause-entry : goal.returns-clause-entry
returns-clause-entry g c = adds _ _ _ _ _ (was_added g c)
