use Rattle.line_text.proofs.Common.{sym, ◌∙◌, ap, Some, cond, [], runs_of}
use Rattle.line_text.proofs.FieldLemmas.{words_of-comment, words_of-short, runs_of-nil}
use Rattle.line_text.proofs.fields.words_of.Goals as goal

pub returns-then-begins_with : goal.returns-then-begins_with
returns-then-begins_with c whole is over =
    ap Some runs_of-nil ∙ sym (words_of-comment c.args.comment c.args.line.now whole is (sym over ∙ c.if-over.true) (sym c.begins_with.ensures ∙ c.if-begins_with.true))

pub returns-then-begins_with-2 : goal.returns-then-begins_with-2
returns-then-begins_with-2 c whole is over =
    let text = c.after_blanks-text.result.now in
    let short = words_of-short c.args.comment c.args.line.now whole text is (sym over ∙ c.if-over.false) (c.after_blanks-text.ensures.fields ∙ ap runs_of c.trimmed.ensures) c.after_blanks-text.ensures.begins in
    ap Some (runs_of-nil ∙ sym (ap (λ v. cond v [] (runs_of text)) (sym c.begins_with-2.ensures ∙ c.if-begins_with-2.true))) ∙ sym short

pub returns-else-begins_with-2 : goal.returns-else-begins_with-2
returns-else-begins_with-2 c whole is over =
    let text = c.after_blanks-text.result.now in
    let short = words_of-short c.args.comment c.args.line.now whole text is (sym over ∙ c.if-over.false) (c.after_blanks-text.ensures.fields ∙ ap runs_of c.trimmed.ensures) c.after_blanks-text.ensures.begins in
    ap Some (sym (ap (λ v. cond v [] (runs_of text)) (sym c.begins_with-2.ensures ∙ c.if-begins_with-2.false))) ∙ sym short
