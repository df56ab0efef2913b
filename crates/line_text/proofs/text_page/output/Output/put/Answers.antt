use Rattle.line_text.proofs.Common.{◌≡◌, false, [], sym, ap, subst, ◌∙◌, HasPut, OutputState, PageState}
use Rattle.line_text.proofs.text_page.OutputLemmas.{put-failed, put-printed}
use Rattle.line_text.proofs.text_page.output.Output.put.Goals as goal

pub returns-then-self-2-clause-put : goal.returns-then-self-2-clause-put
returns-then-self-2-clause-put g c before faults text has =
    let same : record { page = c.add.new.self.text; full = c.add.new.self.faults; failed = c.self.inside.failed } ≡ c.args.self.now
    = ap (λ (p : PageState). record { page = p.text; full = p.faults; failed = c.self.inside.failed }) c.if-add.ensures ∙ c.self.view_is in
    let ended = c.end.ensures.put before faults text
    (subst (λ (o : OutputState). HasPut before (g.K.Sink.written c.args.out.now) faults (g.K.Sink.faults c.args.out.now) o text) (sym same) has) in
    put-failed before (g.K.Sink.written c.end.new.out) faults (g.K.Sink.faults c.end.new.out) c.end.new.self text c.args.bytes.now
    (ap (λ (o : OutputState). o.failed) (sym c.self-2.view_is) ∙ c.if-self-2.true) ended

pub returns-clause-put : goal.returns-clause-put
returns-clause-put g c before faults text has =
    let same : record { page = c.add.new.self.text; full = c.add.new.self.faults; failed = c.self.inside.failed } ≡ c.args.self.now
    = ap (λ (p : PageState). record { page = p.text; full = p.faults; failed = c.self.inside.failed }) c.if-add.ensures ∙ c.self.view_is in
    let ended = c.end.ensures.put before faults text
    (subst (λ (o : OutputState). HasPut before (g.K.Sink.written c.args.out.now) faults (g.K.Sink.faults c.args.out.now) o text) (sym same) has) in
    let stands : c.end.new.self.failed ≡ false = ap (λ (o : OutputState). o.failed) (sym c.self-2.view_is) ∙ c.if-self-2.false in
    let bare : c.end.new.self.page ≡ [] = c.end.ensures.nothing_left stands in
    put-printed c.write_all.result before (g.K.Sink.written c.end.new.out) (g.K.Sink.written c.write_all.new.sink) faults
    (g.K.Sink.faults c.end.new.out) (g.K.Sink.faults c.write_all.new.sink) c.end.new.self
    (record { page = c.self-2.inside.page.text; full = c.self-2.inside.page.faults; failed = c.is_err-self-inside.result }) text c.args.bytes.now
    stands bare c.is_err-self-inside.ensures.value (ap (λ (o : OutputState). o.page) c.self-2.view_is ∙ bare)
    c.write_all.ensures.whole c.write_all.ensures.prefix c.write_all.ensures.faults ended
