use Rattle.log_audit.proofs.Common.{◌++◌, subst, IsStopped}
use Rattle.line_text.specs.declared.line_reader.answers.ReadStop.{ReadStop}
use Rattle.log_audit.proofs.LogParts.{next-read, stop-failed, stop-long}
use Rattle.log_audit.proofs.lines.next_line.Goals as goal

pub returns-in-Ok-clause-next : goal.returns-in-Ok-clause-next
returns-in-Ok-clause-next g c before bytes has =
    let (more, reads, step) = c.in-Ok.ensures.next in
    next-read before _ _ c.args.lines.now bytes more has reads c.next.new.self c.in-Ok.next c.next.ensures.limits (step bytes has.given)

pub returns-in-Err-SourceFailed-clause-next : goal.returns-in-Err-SourceFailed-clause-next
returns-in-Err-SourceFailed-clause-next g c before bytes has =
    let (more, reads, step) = c.in-Err-SourceFailed.ensures.next in
    stop-failed before _ _ c.args.lines.now bytes more has reads
    (subst (λ (e : ReadStop). IsStopped c.args.lines.now.limits bytes (c.args.lines.now.pending ++ more) e) c.in-Err-SourceFailed.field-0-is
    (step bytes has.given))

pub returns-in-Err-TooLong-clause-next : goal.returns-in-Err-TooLong-clause-next
returns-in-Err-TooLong-clause-next g c before bytes has =
    let (more, reads, step) = c.in-Err-TooLong.ensures.next in
    stop-long before _ _ c.args.lines.now bytes more has reads
    (subst (λ (e : ReadStop). IsStopped c.args.lines.now.limits bytes (c.args.lines.now.pending ++ more) e) c.in-Err-TooLong.field-0-is
    (step bytes has.given))
