use Rattle.std.proofs.Common.{◌∷◌, ◌++◌, [], Some, subst}
use Rattle.line_text.specs.declared.line_reader.answers.NextLine.{NextLine}
use Rattle.line_text.specs.declared.line_reader.answers.NextLine.TheVariants.{Line}
use Rattle.line_text.specs.inner.line_reader.Reader.{IsNext}
use Rattle.part_trials.proofs.texts.reader.tell_text.Goals as goal

pub lines-init : goal.lines-init
lines-init c = ([], c.requires)

pub lines-preserved : goal.lines-preserved
lines-preserved c =
    let (bytes, given) = c.lines.invariant in
    let (more, reads, step) = c.in-Ok-Line.ensures.next in
    let next : IsNext (Some c.next.new.source.left) c.next.new.self bytes (c.lines.reader.pending ++ more) Line
    = subst (λ (n : NextLine). IsNext (Some c.next.new.source.left) c.next.new.self bytes (c.lines.reader.pending ++ more) n) c.in-Ok-Line.field-0-is
    (step bytes given) in
    (bytes ++ next.0 ++ 10 ∷ [], next.1.given)
