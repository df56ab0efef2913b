use Rattle.session_run.proofs.Common.{◌≡◌, ℕ, [], List, Option, refl, ap, sym, subst, ◌∙◌, append-nil, text_of, HasPut, SessionState, reach_of, HasToldBy, text_of-none}
use Rattle.ride_model.specs.Text.{head_line}
use Rattle.idle_moves.specs.AheadText.{head_line as head_of_sheets}
use Rattle.session_run.proofs.session.Session.tell_first.Goals as goal

pub returns-in-Log-clause-told : goal.returns-in-Log-clause-told
returns-in-Log-clause-told g c =
    let log : ℕ = c.self.inside.board.start.settings.log in
    let bare : c.self.inside.board.history ≡ [] = ap (λ (s : SessionState). s.board.history) c.self.view_is ∙ c.requires.bare in
    let new : SessionState = record {
      board = c.self.inside.board;
      output = c.put_head.new.output;
      reach = reach_of c.self.inside.writes;
      no_memory = c.self.inside.no_memory;
    } in
    subst (λ (o : Option ℕ). HasToldBy o (g.K.Sink.written c.args.out.now) (g.K.Sink.written c.put_head.new.out) (g.K.Sink.faults c.args.out.now)
    (g.K.Sink.faults c.put_head.new.out) new) (sym (ap reach_of c.in-Log.is))
    (subst (λ (t : List ℕ). HasPut (g.K.Sink.written c.args.out.now) (g.K.Sink.written c.put_head.new.out) (g.K.Sink.faults c.args.out.now)
    (g.K.Sink.faults c.put_head.new.out) c.put_head.new.output t)
    (ap (λ n. head_line n 1 1) c.log.ensures ∙ sym (ap (text_of log 1 1) bare ∙ text_of-none log))
    c.put_head.ensures.logged)

pub returns-in-Sheets-clause-told : goal.returns-in-Sheets-clause-told
returns-in-Sheets-clause-told g c =
    let reach : ℕ = c.in-Sheets.reach in
    let bare : c.self.inside.board.history ≡ [] = ap (λ (s : SessionState). s.board.history) c.self.view_is ∙ c.requires.bare in
    let new : SessionState = record {
      board = c.self.inside.board;
      output = c.put_reach.new.output;
      reach = reach_of c.self.inside.writes;
      no_memory = c.self.inside.no_memory;
    } in
    subst (λ (o : Option ℕ). HasToldBy o (g.K.Sink.written c.args.out.now) (g.K.Sink.written c.put_reach.new.out) (g.K.Sink.faults c.args.out.now)
    (g.K.Sink.faults c.put_reach.new.out) new) (sym (ap reach_of c.in-Sheets.is))
    (record {
      first = [];
      sheets = [];
      begins = ([], sym bare);
      prompt = record { direct = refl; none_given_up = refl };
      sheets_are = tt;
      all = λ _. sym bare;
      logged = subst (λ (t : List ℕ). HasPut (g.K.Sink.written c.args.out.now) (g.K.Sink.written c.put_reach.new.out) (g.K.Sink.faults c.args.out.now)
          (g.K.Sink.faults c.put_reach.new.out) c.put_reach.new.output t) (sym (append-nil (head_of_sheets reach))) c.put_reach.ensures;
    })
