use Rattle.log_audit.proofs.Common.{refl, subst, Spelling, HasEnded, HasReadLog}
use Rattle.log_audit.proofs.AuditSteps.{no-head-answer}
use Rattle.log_audit.proofs.DueLines.{none-due}
use Rattle.log_audit.proofs.Readings.{torn-answer}
use Rattle.log_audit.proofs.due.line_due.Goals as goal

pub returns-in-NoHead : goal.returns-in-NoHead
returns-in-NoHead g c = λ before left start begins read.
    none-due before start 1 Spelling refl (no-head-answer before start (subst (HasReadLog before left start) c.in-NoHead.is read))

pub returns-in-Torn : goal.returns-in-Torn
returns-in-Torn g c = λ before left start begins read.
    let (rest, all, some, line_is) = subst (HasEnded before left start c.in-Lines.auditor) c.in-Torn.is
    (subst (HasReadLog before left start) c.in-Lines.is read) in
    none-due before start c.in-Torn.line Spelling refl (torn-answer before left start c.in-Lines.auditor rest c.in-Torn.line all some line_is)
