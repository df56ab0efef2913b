use Rattle.session_run.proofs.Common.{◌++◌, ◌-◌, List, ℕ, length, take, drop, ap, sym, subst, ◌∙◌, Entry, text_of, entry_lines, HasPut, SessionState, text_of-rest}
use Rattle.session_run.proofs.session.Session.log_rest.Goals as goal

pub returns-clause-told : goal.returns-clause-told
returns-clause-told g c earlier faults has =
    let log : ℕ = c.self.inside.board.start.settings.log in
    let h : List Entry = c.self.inside.board.history in
    let es : List Entry = c.entries-entries.result.now in
    let before : HasPut earlier (g.K.Sink.written c.args.out.now) faults (g.K.Sink.faults c.args.out.now) c.self.inside.output
    (text_of log 1 1 (take c.args.told h)) =
    subst (λ (s : SessionState). HasPut earlier (g.K.Sink.written c.args.out.now) faults (g.K.Sink.faults c.args.out.now) s.output
    (text_of s.board.start.settings.log 1 1 (take c.args.told s.board.history))) (sym c.self.view_is) has in
    subst (λ (t : List ℕ). HasPut earlier (g.K.Sink.written c.put_all.new.out) faults (g.K.Sink.faults c.put_all.new.out) c.put_all.new.output t)
    (ap (λ n. text_of log 1 1 (take c.args.told h) ++ entry_lines n (take (length es - c.args.told) (drop c.args.told es))) c.log.ensures
    ∙ text_of-rest log c.args.told h es c.entries-entries.ensures.items)
    (c.put_all.ensures earlier faults (text_of log 1 1 (take c.args.told h)) before)
