use Rattle.trip_log.proofs.Common.{err_from_is_err_and}
use Rattle.trip_log.proofs.PrintsLemmas.{prints_then, prints_more}
use Rattle.trip_log.proofs.events.print_open_lists.Goals as goal

pub returns-in_err-print_list : goal.returns-in_err-print_list
returns-in_err-print_list g c =
    let failed = err_from_is_err_and c.from_residual.result c.from_residual.ensures.1 in
    rw (failed.1, ← c.items.ensures) (prints_more _ c.in_err-print_list.ensures)

pub returns-in_err-print_list-2 : goal.returns-in_err-print_list-2
returns-in_err-print_list-2 g c =
    let failed = err_from_is_err_and c.from_residual-in_err-print_list-2.result c.from_residual-in_err-print_list-2.ensures.1 in
    rw (failed.1, ← c.items.ensures, ← c.items-2.ensures)
    (prints_then c.in_ok-print_list.ensures (prints_more _ c.in_err-print_list-2.ensures))

pub returns : goal.returns
returns g c =
    rw (← c.items.ensures, ← c.items-2.ensures)
    (prints_then c.in_ok-print_list.ensures (prints_then c.in_ok-print_list-2.ensures c.print.ensures))
