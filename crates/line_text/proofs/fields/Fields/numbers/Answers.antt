use Rattle.line_text.proofs.Common.{sym, ◌∙◌, eqb-true}
use Rattle.line_text.proofs.FieldLemmas.{HasRead-next, HasRead-no_number, HasRead-full, HasRead-all}
use Rattle.line_text.proofs.fields.Fields.numbers.Goals as goal

pub returns-in_err-number-clause-none : goal.returns-in_err-number-clause-none
returns-in_err-number-clause-none g c =
    rw c.from_residual.ensures (HasRead-no_number g.row.N _ c.in-Some.field.now c.next_field.new.self _ _ c.in-Some.ensures.first
    (sym c.read_number.ensures ∙ c.in_err-number.was) c.loop-field.invariant)

pub returns-then-is_full-clause-none : goal.returns-then-is_full-clause-none
returns-then-is_full-clause-none g c =
    HasRead-full g.row.N _ c.in_ok-number.number c.in-Some.field.now c.next_field.new.self _ _ c.in-Some.ensures.first
    (sym c.read_number.ensures ∙ c.in_ok-number.was) (eqb-true _ _ (sym c.is_full.ensures.value ∙ c.if-is_full.true)) c.loop-field.invariant

pub loop-field-preserved : goal.loop-field-preserved
loop-field-preserved g c =
    rw c.push.ensures.items (HasRead-next _ c.in_ok-number.number c.in-Some.field.now c.next_field.new.self _ _ c.in-Some.ensures.first
    (sym c.read_number.ensures ∙ c.in_ok-number.was) c.loop-field.invariant)

pub returns-clause-numbers : goal.returns-clause-numbers
returns-clause-numbers g c = HasRead-all _ _ _ c.in_default.ensures.none.0 c.loop-field.invariant
