use Rattle.trip_log.proofs.Common.{sym, ◌∙◌, true≢false}
use Rattle.trip_log.proofs.HeadLemmas.{no_log, no_feeds, no_desks, no_other}
use Rattle.trip_log.proofs.reading.read_head.Goals as goal

pub returns-in_err-log-clause-none : goal.returns-in_err-log-clause-none
returns-in_err-log-clause-none c = rw c.from_residual.ensures (no_log c.args.line.now (sym c.digit_at.ensures ∙ c.in_err-log.was))

pub returns-in_err-feeds-clause-none : goal.returns-in_err-feeds-clause-none
returns-in_err-feeds-clause-none c = rw c.from_residual-in_err-feeds.ensures (no_feeds c.args.line.now (sym c.digit_at-2.ensures ∙ c.in_err-feeds.was))

pub returns-in_err-desks-clause-none : goal.returns-in_err-desks-clause-none
returns-in_err-desks-clause-none c = rw c.from_residual-in_err-desks.ensures (no_desks c.args.line.now (sym c.digit_at-3.ensures ∙ c.in_err-desks.was))

pub returns-then-not-spells_head-clause-none : goal.returns-then-not-spells_head-clause-none
returns-then-not-spells_head-clause-none c =
    no_other c.args.line.now c.in_ok-log.log c.in_ok-feeds.feeds c.in_ok-desks.desks (sym c.digit_at.ensures ∙ c.in_ok-log.was)
    (sym c.digit_at-2.ensures ∙ c.in_ok-feeds.was) (sym c.digit_at-3.ensures ∙ c.in_ok-desks.was)
    (λ is. true≢false (sym (c.spells_head.ensures.other is) ∙ c.if-not-spells_head.true))
