use Rattle.session_run.proofs.Common.{length, sym, ap, subst, ◌∙◌, Recorded, SessionState, reach_of, HasTold, HasToldAll}
use Rattle.session_run.proofs.ToldSheets.{told-flushed}
use Rattle.session_run.proofs.session.Session.end.Goals as goal

pub returns-clause-told : goal.returns-clause-told
returns-clause-told g c earlier faults has =
    let old : Recorded = c.args.self.now.board in
    told-flushed (reach_of c.self-2.inside.writes) c.args.ending earlier (g.K.Sink.written c.tell_end.new.out) (g.K.Sink.written c.end.new.out) faults
    (g.K.Sink.faults c.tell_end.new.out) (g.K.Sink.faults c.end.new.out)
    (record { board = c.self-2.inside.board; output = c.self-2.inside.output; reach = reach_of c.self-2.inside.writes; no_memory = c.self-2.inside.no_memory })
    c.end.new.self (λ text. c.end.ensures.put earlier faults text)
    (subst (λ (s : SessionState). HasToldAll c.args.ending earlier (g.K.Sink.written c.tell_end.new.out) faults (g.K.Sink.faults c.tell_end.new.out) s)
    (sym c.self-2.view_is)
    (c.tell_end.ensures.told earlier faults old (record {
      start = c.end_actors.ensures.start;
      feeds = c.end_actors.ensures.feeds;
      all = ap length (c.entries-told.ensures.items ∙ ap (λ (s : SessionState). s.board.history) c.self.view_is);
      desk_ending = _;
      grows = c.end_actors.ensures.history;
    })
    (subst (λ (s : SessionState). HasTold earlier (g.K.Sink.written c.args.out.now) faults (g.K.Sink.faults c.args.out.now) (record s { board = old }))
    (sym c.end_actors.ensures.others) has)))
