use Rattle.log_audit.proofs.Common.{[], err_from_is_err_and, sym, ◌∙◌}
use Rattle.log_audit.proofs.AuditSteps.{head-found, head-missing, head-over}
use Rattle.log_audit.proofs.reading.first_line.Goals as goal

pub next_line-requires-clause-read : goal.next_line-requires-clause-read
next_line-requires-clause-read g c κs within =
    let (before, read) = c.requires.nothing_read in (before, [], read)

pub returns-in_err-next_line-clause-head : goal.returns-in_err-next_line-clause-head
returns-in_err-next_line-clause-head g c = λ before read.
    let failed = err_from_is_err_and c.from_residual.result c.from_residual.ensures.1 in
    rw (failed.1, failed.2) (c.in_err-next_line.ensures.next before [] read)

pub returns-else-over-clause-head : goal.returns-else-over-clause-head
returns-else-over-clause-head g c = λ before read.
    head-found before _ c.next_line.new.lines c.args.version c.in_ok-next_line.field-0 c.line.result.now c.head_of.result c.requires.version c.in-Line.is
    (c.in_ok-next_line.ensures.next before [] read) (sym c.if-over.ensures) c.line.ensures c.head_of.ensures.head c.head_of.ensures.none

pub returns-then-over-clause-head : goal.returns-then-over-clause-head
returns-then-over-clause-head g c = λ before read.
    head-over before _ c.next_line.new.lines c.args.version c.in_ok-next_line.field-0 c.requires.version c.in-Line.is
    (c.in_ok-next_line.ensures.next before [] read) (sym c.if-over.ensures)

pub returns-in-Unfinished-clause-head : goal.returns-in-Unfinished-clause-head
returns-in-Unfinished-clause-head g c = λ before read.
    head-missing before _ c.next_line.new.lines c.args.version c.in_ok-next_line.field-0 (λ is. (cc (sym is ∙ c.in-Unfinished.is)))
    (c.in_ok-next_line.ensures.next before [] read)

pub returns-in-End-clause-head : goal.returns-in-End-clause-head
returns-in-End-clause-head g c = λ before read.
    head-missing before _ c.next_line.new.lines c.args.version c.in_ok-next_line.field-0 (λ is. (cc (sym is ∙ c.in-End.is)))
    (c.in_ok-next_line.ensures.next before [] read)
