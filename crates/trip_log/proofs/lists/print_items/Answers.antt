use Rattle.trip_log.proofs.Common.{err_from_is_err_and}
use Rattle.trip_log.proofs.PrintsLemmas.{prints_stopped}
use Rattle.trip_log.proofs.lists.print_items.Goals as goal

pub returns-in_err-print_item : goal.returns-in_err-print_item
returns-in_err-print_item g c =
    let failed = err_from_is_err_and c.from_residual.result c.from_residual.ensures.1 in
    rw failed.1 (prints_stopped g.S.Spelling.field c.args.items.now c.loop-item.item-index c.item-item.result c.loop-item-test.true c.item-item.is c.loop-item.invariant c.in_err-print_item.ensures)
