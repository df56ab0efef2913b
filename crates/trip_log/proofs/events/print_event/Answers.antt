use Rattle.trip_log.proofs.Common.{err_from_is_err_and, actor_field}
use Rattle.trip_log.proofs.PrintsLemmas.{prints_then, prints_more, prints_as, opened_text, committed_text}
use Rattle.trip_log.proofs.events.print_event.Goals as goal

pub returns-in_err-print_open-in-Opened : goal.returns-in_err-print_open-in-Opened
returns-in_err-print_open-in-Opened g c =
    let failed = err_from_is_err_and c.from_residual.result c.from_residual.ensures.1 in
    let e = c.in-Opened in
    rw (failed.1, e.is) (prints_as (opened_text (actor_field c.args.actor) c.args.log e.batch e.time e.requests e.plans)
    (prints_more _ c.in_err-print_open-in-Opened.ensures))

pub returns-in_err-print_commit-in-Committed : goal.returns-in_err-print_commit-in-Committed
returns-in_err-print_commit-in-Committed g c =
    let failed = err_from_is_err_and c.from_residual-in_err-print_commit-in-Committed.result c.from_residual-in_err-print_commit-in-Committed.ensures.1 in
    let e = c.in-Committed in
    rw (failed.1, e.is) (prints_as (committed_text (actor_field c.args.actor) c.args.log e.batch e.cost e.seats e.prices e.pays e.outcomes)
    (prints_more _ c.in_err-print_commit-in-Committed.ensures))

pub returns-in_ok-print_open-in-Opened : goal.returns-in_ok-print_open-in-Opened
returns-in_ok-print_open-in-Opened g c =
    let e = c.in-Opened in
    rw e.is (prints_as (opened_text (actor_field c.args.actor) c.args.log e.batch e.time e.requests e.plans)
    (prints_then c.in_ok-print_open-in-Opened.ensures c.print_open_lists.ensures))

pub returns-in_ok-print_commit-in-Committed : goal.returns-in_ok-print_commit-in-Committed
returns-in_ok-print_commit-in-Committed g c =
    let e = c.in-Committed in
    rw e.is (prints_as (committed_text (actor_field c.args.actor) c.args.log e.batch e.cost e.seats e.prices e.pays e.outcomes)
    (prints_then c.in_ok-print_commit-in-Committed.ensures c.print_commit_lists.ensures))
