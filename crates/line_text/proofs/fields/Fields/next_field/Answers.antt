use Rattle.line_text.proofs.Common.{◌≡◌, [], sym, ◌∙◌, ap, nil_from_length, eqb-true, runs_of}
use Rattle.line_text.proofs.FieldLemmas.{runs_of-nil}
use Rattle.line_text.proofs.fields.Fields.next_field.Goals as goal

pub returns-then-is_empty-clause-none : goal.returns-then-is_empty-clause-none
returns-then-is_empty-clause-none c =
    let text = c.after_blanks-self-inside.result.now in
    let empty : text ≡ [] = nil_from_length text (eqb-true _ _ (sym c.is_empty.ensures ∙ c.if-is_empty.true)) in
    let none : runs_of text ≡ [] = ap runs_of empty ∙ runs_of-nil in
    (sym c.self.view_is ∙ sym c.after_blanks-self-inside.ensures.fields ∙ none, none)
