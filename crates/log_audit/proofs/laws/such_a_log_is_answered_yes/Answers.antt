use Rattle.log_audit.proofs.AuditLimits.{answered-yes}
use Rattle.log_audit.proofs.laws.such_a_log_is_answered_yes.Goals as goal

pub returns : goal.returns
returns c = answered-yes
