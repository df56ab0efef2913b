use Rattle.log_audit.proofs.Common.{◌≡◌, ◌≢◌, List, ℕ, Option, Result, Ok, Err, sym, ◌∙◌, subst, IfSome, err_from_is_err_and, State, start_state, AuditFault, NoMemory, ReadFault, Restoration, IsRestoration, StopsReading}
use Rattle.log_audit.proofs.AuditSteps.{stopped-fault, stopped-long}
use Rattle.log_audit.proofs.Restorations.{only-restoration}
use Rattle.log_audit.proofs.restoring.restore.Goals as goal

-- the answer where reading stopped
stopped : (before left : Option (List ℕ)) (start : State) (e stop : AuditFault) (r : Result Restoration AuditFault) → r ≡ Err e → e ≡ stop
    → StopsReading before left start stop → r ≢ Err NoMemory → r ≢ Err ReadFault → IfSome before (λ all. IsRestoration start all r)
stopped before left start e stop r is same stops memory fault =
    let whole : r ≡ Err stop = is ∙ (λ i. Err (same i)) in
    subst (λ x. IfSome before (λ all. IsRestoration start all x)) (sym whole)
    (stopped-long before left start stop (λ no. memory (whole ∙ (λ i. Err (no i)))) (λ read. fault (whole ∙ (λ i. Err (read i)))) stops)

pub returns-in_err-reading-clause-answer : goal.returns-in_err-reading-clause-answer
returns-in_err-reading-clause-answer g c = λ memory fault.
    let failed = err_from_is_err_and c.from_residual.result c.from_residual.ensures.1 in
    stopped (g.S.Source.left c.args.log.now) _ (start_state c.args.roads.now c.args.settings c.args.fleet) failed.0 c.in_err-reading.field-0.0
    c.from_residual.result failed.1 failed.2 (rw c.new-outset.ensures.state at c.in_err-reading.ensures.read) memory fault

pub returns-in_err-reading-clause-no_other : goal.returns-in_err-reading-clause-no_other
returns-in_err-reading-clause-no_other g c = λ memory fault.
    let failed = err_from_is_err_and c.from_residual.result c.from_residual.ensures.1 in
    let before = g.S.Source.left c.args.log.now in
    let start : State = start_state c.args.roads.now c.args.settings c.args.fleet in
    only-restoration before start c.from_residual.result c.new-outset.ensures.start
    (stopped before _ start failed.0 c.in_err-reading.field-0.0 c.from_residual.result failed.1 failed.2
    (rw c.new-outset.ensures.state at c.in_err-reading.ensures.read) memory fault)

pub returns-in_err-reading-clause-before_fault : goal.returns-in_err-reading-clause-before_fault
returns-in_err-reading-clause-before_fault g c = λ fault.
    let failed = err_from_is_err_and c.from_residual.result c.from_residual.ensures.1 in
    stopped-fault (g.S.Source.left c.args.log.now) _ (start_state c.args.roads.now c.args.settings c.args.fleet) c.in_err-reading.field-0.0
    (cc (failed.1, failed.2, fault)) (rw c.new-outset.ensures.state at c.in_err-reading.ensures.read)

pub returns-clause-answer : goal.returns-clause-answer
returns-clause-answer g c = λ memory fault.
    c.restoration_of.ensures.answer (g.S.Source.left c.args.log.now) _ (start_state c.args.roads.now c.args.settings c.args.fleet) c.new-outset.ensures.start
    (rw c.new-outset.ensures.state at c.in_ok-reading.ensures.read)

pub returns-clause-no_other : goal.returns-clause-no_other
returns-clause-no_other g c = λ memory fault.
    let before = g.S.Source.left c.args.log.now in
    let start : State = start_state c.args.roads.now c.args.settings c.args.fleet in
    only-restoration before start (Ok c.restoration_of.result) c.new-outset.ensures.start
    (c.restoration_of.ensures.answer before _ start c.new-outset.ensures.start (rw c.new-outset.ensures.state at c.in_ok-reading.ensures.read))

pub returns-clause-to_end : goal.returns-clause-to_end
returns-clause-to_end g c = λ restored is.
    c.restoration_of.ensures.to_end (g.S.Source.left c.args.log.now) _ c.new-outset.result c.in_ok-reading.ensures.read restored (cc is)

pub returns-clause-stands : goal.returns-clause-stands
returns-clause-stands g c = λ restored is.
    c.restoration_of.ensures.stands (g.S.Source.left c.args.log.now) _ (start_state c.args.roads.now c.args.settings c.args.fleet)
    (rw c.new-outset.ensures.state at c.in_ok-reading.ensures.read) restored (cc is)
