use Rattle.fleet_board.proofs.Common.{knowledge}
use Rattle.fleet_board.proofs.Points.{finds}
use Rattle.fleet_board.proofs.shared.SharedBoard.take_turn.Goals as goal

pub returns-clause-finds : goal.returns-clause-finds
returns-clause-finds g c =
    let told = c.entries-entries.ensures in
    finds (knowledge c.args.pass.now) c.enter-kept.result.board c.requires.point c.enter-kept.ensures.root c.enter-kept.ensures.seen
    c.enter-kept.ensures.own (record { start_fits = told.start; legal = told.legal; text = told.text })
