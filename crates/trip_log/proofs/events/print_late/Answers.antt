use Rattle.trip_log.proofs.Common.{[], ◌∷◌, decimal, err_from_is_err_and, broken_fields}
use Rattle.trip_log.proofs.PrintsLemmas.{prints_then, prints_more, prints_as, late_text}
use Rattle.trip_log.proofs.events.print_late.Goals as goal

pub returns-in_err-print : goal.returns-in_err-print
returns-in_err-print g c =
    let failed = err_from_is_err_and c.from_residual.result c.from_residual.ensures.1 in
    rw failed.1 (prints_as (late_text (decimal c.args.seconds) (broken_fields c.args.broken.now)) (prints_more _ c.in_err-print.ensures))

pub returns-in_err-print_broken : goal.returns-in_err-print_broken
returns-in_err-print_broken g c =
    let failed = err_from_is_err_and c.from_residual-in_err-print_broken.result c.from_residual-in_err-print_broken.ensures.1 in
    rw failed.1 (prints_as (late_text (decimal c.args.seconds) (broken_fields c.args.broken.now))
    (prints_then c.in_ok-print.ensures (prints_more (10 ∷ []) c.in_err-print_broken.ensures)))

pub returns : goal.returns
returns g c =
    prints_as (late_text (decimal c.args.seconds) (broken_fields c.args.broken.now))
    (prints_then c.in_ok-print.ensures (prints_then c.in_ok-print_broken.ensures c.print-2.ensures))
