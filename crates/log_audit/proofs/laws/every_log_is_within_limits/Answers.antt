use Rattle.log_audit.proofs.AuditLimits.{lines-within, text-within}
use Rattle.log_audit.proofs.laws.every_log_is_within_limits.Goals as goal

pub returns : goal.returns
returns c = record { text = text-within; lines = lines-within }
