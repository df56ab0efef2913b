use Rattle.session_run.proofs.Common.{sym, subst, SessionState, reach_of, HasTold}
use Rattle.session_run.proofs.ToldSheets.{told-written}
use Rattle.session_run.proofs.session.Session.write_told.Goals as goal

pub returns-clause-told : goal.returns-clause-told
returns-clause-told g c earlier faults has =
    let was : SessionState = record {
      board = c.self.inside.board;
      output = c.self.inside.output;
      reach = reach_of c.self.inside.writes;
      no_memory = c.self.inside.no_memory;
    } in
    told-written (reach_of c.self.inside.writes) earlier (g.K.Sink.written c.args.out.now) (g.K.Sink.written c.end.new.out) faults
    (g.K.Sink.faults c.args.out.now) (g.K.Sink.faults c.end.new.out) was c.end.new.self (c.end.ensures.put earlier faults)
    (subst (λ (s : SessionState). HasTold earlier (g.K.Sink.written c.args.out.now) faults (g.K.Sink.faults c.args.out.now) s) (sym c.self.view_is) has)
