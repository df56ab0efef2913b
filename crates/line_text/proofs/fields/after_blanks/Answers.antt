use Rattle.line_text.proofs.Common.{sym, ◌∙◌, at_drop_more, runs_of}
use Rattle.line_text.proofs.FieldLemmas.{runs_of-blank}
use Rattle.line_text.proofs.fields.after_blanks.Goals as goal

pub loop-place-preserved : goal.loop-place-preserved
loop-place-preserved c =
    let text = c.args.text.now in
    sym (at_drop_more runs_of text c.loop-place.place 0 c.loop-place-test.true ∙ runs_of-blank _ _ (sym c.is_blank.ensures ∙ c.if-not-is_blank.false)) ∙ c.loop-place.invariant
