use Rattle.log_audit.proofs.Common.{◌≡◌, ◌≢◌, List, ℕ, Option, Result, Err, Vec, Global, sym, ◌∙◌, subst, IfSome, err_from_is_err_and, State, start_state, AuditFault, NoMemory, ReadFault, IsDueOf, StopsReading}
use Rattle.log_audit.proofs.AuditSteps.{stopped-fault, stopped-long}
use Rattle.log_audit.proofs.due.due_line.Goals as goal

-- the answer where reading stopped
stopped : (before left : Option (List ℕ)) (start : State) (e stop : AuditFault) (r : Result (Option (Vec ℕ Global)) AuditFault) → r ≡ Err e → e ≡ stop
    → StopsReading before left start stop → r ≢ Err NoMemory → r ≢ Err ReadFault → IfSome before (λ all. IsDueOf start all r)
stopped before left start e stop r is same stops memory fault =
    let whole : r ≡ Err stop = is ∙ (λ i. Err (same i)) in
    subst (λ x. IfSome before (λ all. IsDueOf start all x)) (sym whole)
    (stopped-long before left start stop (λ no. memory (whole ∙ (λ i. Err (no i)))) (λ read. fault (whole ∙ (λ i. Err (read i)))) stops)

pub returns-in_err-reading-clause-due : goal.returns-in_err-reading-clause-due
returns-in_err-reading-clause-due g c = λ memory fault.
    let failed = err_from_is_err_and c.from_residual.result c.from_residual.ensures.1 in
    stopped (g.S.Source.left c.args.log.now) _ (start_state c.args.roads.now c.args.settings c.args.fleet) failed.0 c.in_err-reading.field-0.0
    c.from_residual.result failed.1 failed.2 (rw c.new-outset.ensures.state at c.in_err-reading.ensures.read) memory fault

pub returns-in_err-reading-clause-before_fault : goal.returns-in_err-reading-clause-before_fault
returns-in_err-reading-clause-before_fault g c = λ fault.
    let failed = err_from_is_err_and c.from_residual.result c.from_residual.ensures.1 in
    stopped-fault (g.S.Source.left c.args.log.now) _ (start_state c.args.roads.now c.args.settings c.args.fleet) c.in_err-reading.field-0.0
    (cc (failed.1, failed.2, fault)) (rw c.new-outset.ensures.state at c.in_err-reading.ensures.read)

pub line_due-requires-clause-read : goal.line_due-requires-clause-read
line_due-requires-clause-read g c κs within =
    (g.S.Source.left c.args.log.now, g.S.Source.left c.read_log.new.log, c.new-outset.result, c.in_ok-reading.ensures.read)

pub returns-clause-due : goal.returns-clause-due
returns-clause-due g c = λ memory fault.
    c.in_ok-line.ensures (g.S.Source.left c.args.log.now) _ (start_state c.args.roads.now c.args.settings c.args.fleet) c.new-outset.ensures.start
    (rw c.new-outset.ensures.state at c.in_ok-reading.ensures.read)
