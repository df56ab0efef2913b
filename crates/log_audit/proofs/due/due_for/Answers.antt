use Rattle.log_audit.proofs.Common.{sym}
use Rattle.log_audit.proofs.DueLines.{line-due, none-due}
use Rattle.log_audit.proofs.Readings.{wrong-answer}
use Rattle.log_audit.proofs.due.due_for.Goals as goal

pub returns-then-not-has_due : goal.returns-then-not-has_due
returns-then-not-has_due g c = λ before left start number begins w.
    none-due before start number c.args.fault.why (sym c.if-not-has_due.ensures) (wrong-answer before left start c.args.auditor number c.args.fault w)

pub returns : goal.returns
returns g c = λ before left start number begins w.
    let has = sym c.if-not-has_due.ensures in
    let grown = c.in_ok-auditor.ensures w.old w.auditing has w.due in
    line-due before left start c.args.auditor c.in_ok-auditor.auditor number c.args.fault w has grown c.entries-history.ensures.legal
    c.entries-history.ensures.text c.last_line.result (c.last_line.ensures w.old.board.history grown.due grown.grows)
