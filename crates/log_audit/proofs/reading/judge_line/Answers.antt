use Rattle.log_audit.proofs.Common.{◌≡◌, true, false, sym, ◌∙◌}
use Rattle.log_audit.proofs.AuditSteps.{over-wrong, unread-wrong, read-judged, spelling-left}
use Rattle.log_audit.proofs.reading.judge_line.Goals as goal

not-over : false ≡ true → ⊥
not-over h = cc h

pub returns-then-over : goal.returns-then-over
returns-then-over g c = λ line none shown over.
    spelling-left c.args.auditor.now c.args.auditor.now line c.of.result c.of.ensures
    (over-wrong c.args.auditor.now.board line none (sym over ∙ sym c.if-over.ensures))

pub returns-in_default : goal.returns-in_default
returns-in_default g c = λ line none shown over.
    spelling-left c.args.auditor.now c.args.auditor.now line c.of-in_default.result c.of-in_default.ensures
    (unread-wrong c.args.auditor.now line c.args.lines.now.cutter.shown c.line.result.now c.in_ok-entry.field-0 c.requires.auditing none shown
    (λ more. not-over (c.if-over.ensures ∙ over ∙ more)) c.line.ensures c.in_default.is c.in_ok-entry.ensures.none)

pub returns : goal.returns
returns g c = λ line none shown over.
    read-judged c.args.auditor.now _ line c.args.lines.now.cutter.shown c.line.result.now c.in_ok-entry.field-0 c.in-Some.entry c.judge.result
    c.requires.auditing shown (λ more. not-over (c.if-over.ensures ∙ over ∙ more)) c.line.ensures c.in-Some.is c.in_ok-entry.ensures.has_line
    c.in_ok-entry.ensures.an_entry c.judge.ensures
