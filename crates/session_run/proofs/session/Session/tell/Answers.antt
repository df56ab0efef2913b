use Rattle.session_run.proofs.Common.{◌≡◌, ℕ, Option, Some, None, cond, [], ◌++◌, take, sym, ap, subst, ◌∙◌, ◌||◌, not, text_of, Recorded, sheet_line, HasPut, SessionState, reach_of, is_whole, sheets_in, HasToldBy, GoesOnWith, flat_map}
use Rattle.session_run.proofs.ToldSheets.{told-first, told-more}
use Rattle.session_run.proofs.session.Session.tell.Goals as goal

pub returns-in-Sheets-clause-told : goal.returns-in-Sheets-clause-told
returns-in-Sheets-clause-told g c earlier faults board goes has =
    let now : SessionState = c.args.self.now in
    let old : SessionState = record now { board = board } in
    let new : SessionState = c.tell_sheet.new.self in
    let reach : ℕ = c.in-Sheets.field-0 in
    let view = c.self.view_is in
    let given : now.reach ≡ Some reach = ap (λ (s : SessionState). s.reach) (sym view) ∙ ap reach_of c.in-Sheets.is in
    let others = c.tell_sheet.ensures.others in
    let still : new.reach ≡ Some reach = ap (λ (s : SessionState). s.reach) others ∙ ap reach_of c.in-Sheets.is in
    let stands : new.board ≡ now.board = ap (λ (s : SessionState). s.board) others ∙ ap (λ (s : SessionState). s.board) view in
    let wanting : new.no_memory ≡ (now.no_memory || not (is_whole c.args.answered.now)) =
    ap (λ (s : SessionState). s.no_memory) others
    ∙ ap (λ (s : SessionState). s.no_memory || not c.is_whole.result) view ∙ ap (λ b. now.no_memory || not b) c.is_whole.ensures in
    subst (λ (o : Option ℕ). HasToldBy o earlier (g.K.Sink.written c.tell_sheet.new.out) faults (g.K.Sink.faults c.tell_sheet.new.out) new) (sym still)
    (told-more reach c.args.answered.now earlier (g.K.Sink.written c.args.out.now) (g.K.Sink.written c.tell_sheet.new.out) faults
    (g.K.Sink.faults c.args.out.now) (g.K.Sink.faults c.tell_sheet.new.out) old new wanting
    (λ text before. subst (λ b. HasPut earlier (g.K.Sink.written c.tell_sheet.new.out) faults (g.K.Sink.faults c.tell_sheet.new.out) new.output
    (text ++ cond b [] (flat_map sheet_line (sheets_in c.args.answered.now)))) (sym (ap (λ (s : SessionState). s.no_memory) others))
    (c.tell_sheet.ensures.told earlier faults text
    (subst (λ (s : SessionState). HasPut earlier (g.K.Sink.written c.args.out.now) faults (g.K.Sink.faults c.args.out.now) s.output text) (sym view) before)))
    c.args.told
    (subst (λ (b : Recorded). GoesOnWith (Some reach) c.args.told c.args.answered.now board b) (sym stands)
    (subst (λ (o : Option ℕ). GoesOnWith o c.args.told c.args.answered.now board now.board) given goes))
    (subst (λ (o : Option ℕ). HasToldBy o earlier (g.K.Sink.written c.args.out.now) faults (g.K.Sink.faults c.args.out.now) old) given has))

pub returns-in-Log-clause-told : goal.returns-in-Log-clause-told
returns-in-Log-clause-told g c earlier faults board goes has =
    let now : SessionState = c.args.self.now in
    let old : SessionState = record now { board = board } in
    let new : SessionState = c.log_rest.new.self in
    let view = c.self.view_is in
    let given : now.reach ≡ None = ap (λ (s : SessionState). s.reach) (sym view) ∙ ap reach_of c.in-Log.is in
    let still : new.reach ≡ None = ap (λ (s : SessionState). s.reach) c.log_rest.ensures.others ∙ ap reach_of c.in-Log.is in
    subst (λ (o : Option ℕ). HasToldBy o earlier (g.K.Sink.written c.log_rest.new.out) faults (g.K.Sink.faults c.log_rest.new.out) new) (sym still)
    (c.log_rest.ensures.told earlier faults
    (subst (λ (s : SessionState). HasPut earlier (g.K.Sink.written c.args.out.now) faults (g.K.Sink.faults c.args.out.now) s.output
    (text_of s.board.start.settings.log 1 1 (take c.args.told s.board.history))) (sym view)
    (told-first c.args.told earlier (g.K.Sink.written c.args.out.now) faults (g.K.Sink.faults c.args.out.now) now.output board now.board goes.goes_on.more
    goes.goes_on.start goes.goes_on.grows goes.all
    (subst (λ (o : Option ℕ). HasToldBy o earlier (g.K.Sink.written c.args.out.now) faults (g.K.Sink.faults c.args.out.now) old) given has))))
