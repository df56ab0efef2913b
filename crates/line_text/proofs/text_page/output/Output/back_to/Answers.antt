use Rattle.line_text.proofs.Common.{◌≡◌, take, sym, ap, subst, ◌∙◌, HasPut, OutputState, PageState}
use Rattle.line_text.proofs.text_page.output.Output.back_to.Goals as goal

pub returns-clause-put : goal.returns-clause-put
returns-clause-put g c before faults text has =
    let cut : record { page = c.cut_to.new.self.text; full = c.cut_to.new.self.faults; failed = c.self.inside.failed }
    ≡ record c.args.self.now { page = take c.args.mark c.args.self.now.page }
    = ap (λ (p : PageState). record { page = p.text; full = p.faults; failed = c.self.inside.failed }) c.cut_to.ensures
    ∙ ap (λ (o : OutputState). record o { page = take c.args.mark o.page }) c.self.view_is in
    c.end.ensures.put before faults text
    (subst (λ (o : OutputState). HasPut before (g.K.Sink.written c.args.out.now) faults (g.K.Sink.faults c.args.out.now) o text) (sym cut) has)
