use Rattle.session_run.proofs.Common.{◌≡◌, ℕ, List, false, cond, [], ◌++◌, sym, ap, subst, ◌∙◌, append-nil, MoveSheet, sheet_line, HasPut, SessionState, sheets_in, flat_map}
use Rattle.session_run.proofs.session.Session.tell_sheet.Goals as goal

pub returns-in-Some-clause-told : goal.returns-in-Some-clause-told
returns-in-Some-clause-told g c earlier faults text has =
    let sound : c.args.self.now.no_memory ≡ false = ap (λ (s : SessionState). s.no_memory) (sym c.self.view_is) ∙ c.if-self.false in
    let line : sheet_line c.in-Some.sheet.now ≡ cond c.args.self.now.no_memory [] (flat_map sheet_line (sheets_in c.args.answered.now)) =
    sym (append-nil (sheet_line c.in-Some.sheet.now))
    ∙ ap (λ (sheets : List MoveSheet). flat_map sheet_line sheets) (sym c.in-Some.ensures)
    ∙ ap (λ b. cond b [] (flat_map sheet_line (sheets_in c.args.answered.now))) (sym sound) in
    subst (λ (l : List ℕ). HasPut earlier (g.K.Sink.written c.put_sheet.new.out) faults (g.K.Sink.faults c.put_sheet.new.out) c.put_sheet.new.output
    (text ++ l)) line
    (c.put_sheet.ensures earlier faults text
    (subst (λ (s : SessionState). HasPut earlier (g.K.Sink.written c.args.out.now) faults (g.K.Sink.faults c.args.out.now) s.output text)
    (sym c.self.view_is) has))
