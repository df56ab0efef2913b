use Rattle.log_audit.proofs.Common.{subst, HasEnded, HasReadLog}
use Rattle.log_audit.proofs.AuditSteps.{no-head-answer}
use Rattle.log_audit.proofs.Readings.{torn-answer, wrong-answer}
use Rattle.log_audit.proofs.auditing.verdict_of.Goals as goal

pub returns-in-NoHead-clause-answer : goal.returns-in-NoHead-clause-answer
returns-in-NoHead-clause-answer c = λ before left start begins read.
    no-head-answer before start (subst (HasReadLog before left start) c.in-NoHead.is read)

pub returns-in-Torn-clause-answer : goal.returns-in-Torn-clause-answer
returns-in-Torn-clause-answer c = λ before left start begins read.
    let (rest, all, some, line_is) = subst (HasEnded before left start c.in-Lines.auditor) c.in-Torn.is
    (subst (HasReadLog before left start) c.in-Lines.is read) in
    torn-answer before left start c.in-Lines.auditor rest c.in-Torn.line all some line_is

pub returns-clause-answer : goal.returns-clause-answer
returns-clause-answer c = λ before left start begins read.
    wrong-answer before left start c.in-Lines.auditor c.in-Wrong.line c.in-Wrong.fault
    (subst (HasEnded before left start c.in-Lines.auditor) c.in-Wrong.is (subst (HasReadLog before left start) c.in-Lines.is read))
