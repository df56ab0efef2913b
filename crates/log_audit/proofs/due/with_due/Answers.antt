use Rattle.log_audit.proofs.DueLines.{entry-left}
use Rattle.log_audit.proofs.due.with_due.Goals as goal

pub returns-in_default : goal.returns-in_default
returns-in_default g c = λ old auditing has left.
    entry-left old c.args.auditor c.args.fault.why c.args.fault.batch has left c.in_default.is
