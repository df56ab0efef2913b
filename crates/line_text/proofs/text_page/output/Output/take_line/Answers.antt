use Rattle.line_text.proofs.Common.{List, ℕ, OnOk, ap, subst, OutputState}
use Rattle.line_text.specs.inner.Taking.{TakesOneMore}
use Rattle.line_text.proofs.text_page.output.Output.take_line.Goals as goal

pub returns-else-is_err-clause-taken : goal.returns-else-is_err-clause-taken
returns-else-is_err-clause-taken g c first lines text whole takes number line over =
    subst (λ (page : List ℕ). OnOk c.take_line-taken.result (TakesOneMore g.L.LineTaker.takes first lines text whole page
    c.take_line-taken.new.page.text c.take_line-taken.new.self)) (ap (λ (o : OutputState). o.page) c.self.view_is)
    (c.take_line-taken.ensures.taken first lines text whole takes number line over)
