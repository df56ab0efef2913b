use Rattle.board_core.proofs.Common.{refl, ◌∙◌, ap, arith, take_all, picked_total}
use Rattle.board_core.proofs.board.totals.picked_in.Goals as goal

pub loop-entry-init : goal.loop-entry-init
loop-entry-init c = refl

pub returns : goal.returns
returns c = c.loop-entry.invariant ∙ ap picked_total (take_all c.loop-entry.entry-index c.args.entries.now (omega (arith, c.loop-entry-test.false)))
