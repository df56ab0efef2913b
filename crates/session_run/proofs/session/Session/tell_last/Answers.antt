use Rattle.session_run.proofs.Common.{◌≡◌, false, cond, [], ◌++◌, sym, ap, subst, ◌∙◌, last_line, HasPut, SessionState}
use Rattle.session_run.proofs.session.Session.tell_last.Goals as goal

pub returns-then-not-self-clause-told : goal.returns-then-not-self-clause-told
returns-then-not-self-clause-told g c earlier faults text has =
    let sound : c.args.self.now.no_memory ≡ false = ap (λ (s : SessionState). s.no_memory) (sym c.self.view_is) ∙ c.if-not-self.true in
    subst (λ b. HasPut earlier (g.K.Sink.written c.put_end.new.out) faults (g.K.Sink.faults c.put_end.new.out) c.put_end.new.output
    (text ++ cond b [] (last_line c.args.ending))) (sym sound)
    (c.put_end.ensures earlier faults text
    (subst (λ (s : SessionState). HasPut earlier (g.K.Sink.written c.args.out.now) faults (g.K.Sink.faults c.args.out.now) s.output text)
    (sym c.self.view_is) has))
