use Rattle.log_audit.proofs.Common.{◌≡◌, [], subst, sym, ◌∙◌, HasEnded, HasReadLog}
use Rattle.log_audit.proofs.Restorations.{all-restored, board-restored, no-head-restored, wrong-restored}
use Rattle.log_audit.proofs.restoring.restoration_of.Goals as goal

pub returns-in-NoHead-clause-answer : goal.returns-in-NoHead-clause-answer
returns-in-NoHead-clause-answer c = λ before left start begins read.
    no-head-restored before start (subst (HasReadLog before left start) c.in-NoHead.is read)

pub returns-in-Whole-clause-answer : goal.returns-in-Whole-clause-answer
returns-in-Whole-clause-answer c = λ before left start begins read.
    all-restored before left start c.in-Lines.auditor [] c.restored_of.result
    (subst (HasEnded before left start c.in-Lines.auditor) c.in-Whole.is (subst (HasReadLog before left start) c.in-Lines.is read))
    c.restored_of.ensures

pub returns-in-Whole-clause-stands : goal.returns-in-Whole-clause-stands
returns-in-Whole-clause-stands c = λ before left start read restored is.
    let same : c.restored_of.result ≡ restored = cc is in
    board-restored before left start c.in-Lines.auditor [] restored
    (subst (HasEnded before left start c.in-Lines.auditor) c.in-Whole.is (subst (HasReadLog before left start) c.in-Lines.is read))
    (sym same ∙ c.restored_of.ensures)

pub returns-in-Torn-clause-answer : goal.returns-in-Torn-clause-answer
returns-in-Torn-clause-answer c = λ before left start begins read.
    let (rest, all, _, _) = subst (HasEnded before left start c.in-Lines.auditor) c.in-Torn.is
    (subst (HasReadLog before left start) c.in-Lines.is read) in
    all-restored before left start c.in-Lines.auditor rest c.restored_of-in-Torn.result all c.restored_of-in-Torn.ensures

pub returns-in-Torn-clause-stands : goal.returns-in-Torn-clause-stands
returns-in-Torn-clause-stands c = λ before left start read restored is.
    let (rest, all, _, _) = subst (HasEnded before left start c.in-Lines.auditor) c.in-Torn.is
    (subst (HasReadLog before left start) c.in-Lines.is read) in
    let same : c.restored_of-in-Torn.result ≡ restored = cc is in
    board-restored before left start c.in-Lines.auditor rest restored all (sym same ∙ c.restored_of-in-Torn.ensures)

pub returns-clause-answer : goal.returns-clause-answer
returns-clause-answer c = λ before left start begins read.
    wrong-restored before left start c.in-Lines.auditor c.in-Wrong.line c.in-Wrong.fault
    (subst (HasEnded before left start c.in-Lines.auditor) c.in-Wrong.is (subst (HasReadLog before left start) c.in-Lines.is read))
