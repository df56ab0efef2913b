use Rattle.trip_log.proofs.Common.{err_from_is_err_and, listed}
use Rattle.trip_log.proofs.PrintsLemmas.{prints_then, prints_more}
use Rattle.trip_log.proofs.lists.print_list.Goals as goal

pub returns-in_err-put : goal.returns-in_err-put
returns-in_err-put g c =
    let failed = err_from_is_err_and c.from_residual.result c.from_residual.ensures.1 in
    rw failed.1 (prints_more (listed g.S.Spelling.field c.args.items.now) c.in_err-put.ensures)

pub returns : goal.returns
returns g c = prints_then c.in_ok-put.ensures c.print_items.ensures
