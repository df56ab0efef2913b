use Rattle.line_text.proofs.Common.{sym, ◌∙◌, arith}
use Rattle.line_text.proofs.FieldLemmas.{runs_of-first, begins_field-blank, begins_field-past, begins_field-first, begins_field-some}
use Rattle.line_text.proofs.fields.field_length.Goals as goal

pub returns-then-is_blank-clause-field : goal.returns-then-is_blank-clause-field
returns-then-is_blank-clause-field c begins =
    let blank = sym c.is_blank.ensures ∙ c.if-is_blank.true in
    runs_of-first c.args.text.now c.loop-place.place (omega arith) (begins_field-first c.args.text.now _ begins blank) c.loop-place.invariant
    (begins_field-blank c.args.text.now _ blank)

pub returns-then-is_blank-clause-some : goal.returns-then-is_blank-clause-some
returns-then-is_blank-clause-some c begins = begins_field-first c.args.text.now _ begins (sym c.is_blank.ensures ∙ c.if-is_blank.true)

pub returns-clause-field : goal.returns-clause-field
returns-clause-field c begins =
    let some = begins_field-some c.args.text.now begins in
    runs_of-first c.args.text.now _ (omega arith) some (λ k below. c.loop-place.invariant k (omega arith)) (begins_field-past c.args.text.now _ (omega arith))

pub returns-clause-some : goal.returns-clause-some
returns-clause-some c begins = begins_field-some c.args.text.now begins
