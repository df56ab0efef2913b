use Rattle.trip_log.proofs.Common.{err_from_is_err_and, actor_field}
use Rattle.trip_log.proofs.PrintsLemmas.{prints_then, prints_more, prints_as, answered_text}
use Rattle.trip_log.proofs.events.print_answered.Goals as goal

pub returns-in_err-print : goal.returns-in_err-print
returns-in_err-print g c =
    let failed = err_from_is_err_and c.from_residual.result c.from_residual.ensures.1 in
    rw failed.1 (prints_as (answered_text (actor_field c.args.actor) c.args.log c.args.command.now c.args.reply.now c.requires.not_bad)
    (prints_more _ c.in_err-print.ensures))

pub returns-in_err-print_spelling : goal.returns-in_err-print_spelling
returns-in_err-print_spelling g c =
    let failed = err_from_is_err_and c.from_residual-in_err-print_spelling.result c.from_residual-in_err-print_spelling.ensures.1 in
    rw failed.1 (prints_as (answered_text (actor_field c.args.actor) c.args.log c.args.command.now c.args.reply.now c.requires.not_bad)
    (prints_then c.in_ok-print.ensures (prints_more _ c.in_err-print_spelling.ensures)))

pub returns : goal.returns
returns g c =
    prints_as (answered_text (actor_field c.args.actor) c.args.log c.args.command.now c.args.reply.now c.requires.not_bad)
    (prints_then c.in_ok-print.ensures (prints_then c.in_ok-print_spelling.ensures c.print_reply.ensures))
