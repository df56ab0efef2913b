use Rattle.line_text.proofs.Common.{◌≡◌, false, sym, ap, ◌∙◌, OutputState}
use Rattle.line_text.proofs.text_page.OutputLemmas.{put-page}
use Rattle.line_text.proofs.text_page.output.Output.end.Goals as goal

pub returns-then-not-self-clause-put : goal.returns-then-not-self-clause-put
returns-then-not-self-clause-put g c before faults text has =
    let stands : c.self.inside.failed ≡ false = c.if-not-self.true in
    let same : c.self.inside.page.text ≡ c.args.self.now.page = ap (λ (o : OutputState). o.page) c.self.view_is in
    put-page c.write_to.result before (g.K.Sink.written c.args.out.now) (g.K.Sink.written c.write_to.new.out) faults
    (g.K.Sink.faults c.args.out.now) (g.K.Sink.faults c.write_to.new.out) c.args.self.now
    (record { page = c.write_to.new.self.text; full = c.write_to.new.self.faults; failed = c.is_err-self-inside.result }) text
    (ap (λ (o : OutputState). o.failed) (sym c.self.view_is) ∙ stands) c.is_err-self-inside.ensures.value c.write_to.ensures.emptied
    (rw same at c.write_to.ensures.whole) (rw same at c.write_to.ensures.prefix) c.write_to.ensures.faults has
