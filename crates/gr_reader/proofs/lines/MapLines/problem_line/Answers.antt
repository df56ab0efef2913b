use Rattle.gr_reader.proofs.Common.{sym, ◌∙◌, refl}
use Rattle.gr_reader.proofs.MapLemmas.{problem-gives, none-from}
use Rattle.gr_reader.proofs.lines.MapLines.problem_line.Goals as goal

pub returns : goal.returns
returns c so_far holds few =
    problem-gives c.args.number _ so_far c.in_ok-problem.problem c.args.fields.now
    (sym holds.problem ∙ none-from _ (sym c.is_some.ensures ∙ c.if-is_some.false)) holds.within few
    (sym c.in_ok-problem.ensures.value) c.in_ok-problem.ensures.within refl c.in-Ok.ensures.items holds.counted
