use Rattle.session_run.proofs.Common.{◌≡◌, ℕ, [], ◌∷◌, Option, Some, None, sym, ap, subst, ◌∙◌, Desk, Feed, Recorded, end_entry, SessionState, reach_of, HasToldBy, HasToldAllBy, GoesOnTo}
use Rattle.session_run.proofs.ToldSheets.{told-first, told-last}
use Rattle.session_run.proofs.session.Session.tell_end.Goals as goal

pub returns-in-Sheets-clause-told : goal.returns-in-Sheets-clause-told
returns-in-Sheets-clause-told g c earlier faults board goes has =
    let now : SessionState = c.args.self.now in
    let old : SessionState = record now { board = board } in
    let new : SessionState = c.tell_last.new.self in
    let reach : ℕ = c.in-Sheets.field-0 in
    let given : now.reach ≡ Some reach = ap (λ (s : SessionState). s.reach) (sym c.self.view_is) ∙ ap reach_of c.in-Sheets.is in
    let same : new ≡ record now { output = new.output } = c.tell_last.ensures.others in
    let still : new.reach ≡ Some reach = ap (λ (s : SessionState). s.reach) same ∙ given in
    subst (λ (o : Option ℕ). HasToldAllBy o c.args.ending earlier (g.K.Sink.written c.tell_last.new.out) faults (g.K.Sink.faults c.tell_last.new.out) new)
    (sym still)
    (told-last reach c.args.told c.args.ending earlier (g.K.Sink.written c.args.out.now) (g.K.Sink.written c.tell_last.new.out) faults
    (g.K.Sink.faults c.args.out.now) (g.K.Sink.faults c.tell_last.new.out) old new (ap (λ (s : SessionState). s.no_memory) same)
    (subst (λ (b : Recorded). GoesOnTo c.args.ending c.args.told board b) (sym (ap (λ (s : SessionState). s.board) same)) goes)
    (c.tell_last.ensures.told earlier faults)
    (subst (λ (o : Option ℕ). HasToldBy o earlier (g.K.Sink.written c.args.out.now) faults (g.K.Sink.faults c.args.out.now) old) given has))

pub returns-in-Log-clause-told : goal.returns-in-Log-clause-told
returns-in-Log-clause-told g c earlier faults board goes has =
    let now : SessionState = c.args.self.now in
    let old : SessionState = record now { board = board } in
    let new : SessionState = c.log_rest.new.self in
    let given : now.reach ≡ None = ap (λ (s : SessionState). s.reach) (sym c.self.view_is) ∙ ap reach_of c.in-Log.is in
    let still : new.reach ≡ None = ap (λ (s : SessionState). s.reach) c.log_rest.ensures.others ∙ given in
    subst (λ (o : Option ℕ). HasToldAllBy o c.args.ending earlier (g.K.Sink.written c.log_rest.new.out) faults (g.K.Sink.faults c.log_rest.new.out) new)
    (sym still)
    (c.log_rest.ensures.told earlier faults
    (told-first c.args.told earlier (g.K.Sink.written c.args.out.now) faults (g.K.Sink.faults c.args.out.now) now.output board now.board
    (end_entry (Feed 1) c.args.ending ∷ end_entry (Desk 1) goes.desk_ending ∷ []) goes.start goes.grows goes.all
    (subst (λ (o : Option ℕ). HasToldBy o earlier (g.K.Sink.written c.args.out.now) faults (g.K.Sink.faults c.args.out.now) old) given has)))
