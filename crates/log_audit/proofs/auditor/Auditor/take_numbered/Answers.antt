use Rattle.log_audit.proofs.Common.{Some, None, cond, sym, ◌∙◌, ap, eq-eqb, ne_eqb, state_of, none-numbered, consistent}
use Rattle.log_audit.proofs.OpenOnes.{numbered-of}
use Rattle.log_audit.proofs.auditor.Auditor.take_numbered.Goals as goal

pub returns-in_err-batch-clause-batch : goal.returns-in_err-batch-clause-batch
returns-in_err-batch-clause-batch c =
    c.from_residual.ensures
    ∙ sym (none-numbered c.args.desk c.args.number (state_of c.args.self.now.board).batches
    (sym (c.in_err-batch.ensures.batch ∙ c.requires.auditing.open_are c.args.desk c.requires.desk)))

pub returns-then-number-clause-batch : goal.returns-then-number-clause-batch
returns-then-number-clause-batch c =
    let board = c.args.self.now.board in
    let differ = (consistent board.feeds board.desks board.start board.history c.entries-history.ensures.start c.entries-history.ensures.legal).desks_differ in
    let found = sym (c.in_ok-batch.ensures.batch ∙ c.requires.auditing.open_are c.args.desk c.requires.desk) in
    sym (numbered-of c.args.desk c.args.number (state_of board).batches c.in_ok-batch.batch differ found
    ∙ ap (λ t. cond t (Some c.in_ok-batch.batch) None) (eq-eqb c.in_ok-batch.batch.number c.args.number (sym c.number.ensures ∙ c.if-number.true)))

pub returns-else-number-clause-batch : goal.returns-else-number-clause-batch
returns-else-number-clause-batch c =
    let board = c.args.self.now.board in
    let differ = (consistent board.feeds board.desks board.start board.history c.entries-history.ensures.start c.entries-history.ensures.legal).desks_differ in
    let found = sym (c.in_ok-batch.ensures.batch ∙ c.requires.auditing.open_are c.args.desk c.requires.desk) in
    sym (numbered-of c.args.desk c.args.number (state_of board).batches c.in_ok-batch.batch differ found
    ∙ ap (λ t. cond t (Some c.in_ok-batch.batch) None) (ne_eqb c.in_ok-batch.batch.number c.args.number (λ same. c.if-number.false (c.number.ensures ∙ same))))
