use Rattle.line_text.proofs.Common.{sym, ◌∙◌, ap, arith, take, ◌≡◌, without_end}
use Rattle.line_text.proofs.FieldLemmas.{without_end-dropped, without_end-kept, without_end-nil, take-last}
use Rattle.line_text.proofs.fields.trimmed.Goals as goal

pub returns-then-not-is_dropped : goal.returns-then-not-is_dropped
returns-then-not-is_dropped c =
    let last = take-last c.args.line.now c.loop-end.end (omega arith) c.loop-end.invariant.within in
    last ∙ sym (without_end-kept _ _ (sym c.is_dropped.ensures ∙ c.if-not-is_dropped.true)) ∙ ap without_end (sym last) ∙ c.loop-end.invariant.dropped

pub loop-end-preserved : goal.loop-end-preserved
loop-end-preserved c =
    let last = take-last c.args.line.now c.loop-end.end (omega arith) c.loop-end.invariant.within in
    record {
      within = omega arith;
      dropped = sym (ap without_end last ∙ without_end-dropped _ _ (sym c.is_dropped.ensures ∙ c.if-not-is_dropped.false)) ∙ c.loop-end.invariant.dropped;
    }

pub returns : goal.returns
returns c =
    let none : c.loop-end.end ≡ 0 = omega arith in
    sym without_end-nil ∙ sym (ap (λ n. without_end (take n c.args.line.now)) none) ∙ c.loop-end.invariant.dropped
