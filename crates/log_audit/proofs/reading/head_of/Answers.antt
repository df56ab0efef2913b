use Rattle.log_audit.proofs.Common.{◌++◌, ◌∷◌, []}
use Rattle.log_audit.proofs.AuditSteps.{other-version}
use Rattle.log_audit.proofs.reading.head_of.Goals as goal

pub returns-else-head-version-clause-none : goal.returns-else-head-version-clause-none
returns-else-head-version-clause-none c = λ feeds desks v f d same.
    c.if-head-version.false (other-version c.args.version feeds desks c.in_ok-head.head.log c.in_ok-head.head.feeds c.in_ok-head.head.desks
    (c.args.line.now ++ 10 ∷ []) v f d c.in_ok-head.ensures.log c.in_ok-head.ensures.feeds c.in_ok-head.ensures.desks c.in_ok-head.ensures.head same)
