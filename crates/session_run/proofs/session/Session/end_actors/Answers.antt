use Rattle.session_run.proofs.Common.{◌≡◌, ap, sym, subst, ◌∙◌, Whole, Recorded, state_of, SessionState, IsSession}
use Rattle.session_run.proofs.Ends.{desk-may_end}
use Rattle.session_run.proofs.session.Session.end_actors.Goals as goal
use Rattle.session_run.proofs.session.Session.end_actors.Goals.{then-whole, else-whole}

pub end-requires-2 : goal.end-requires-2
end-requires-2 c =
    let whole : c.if-whole.desk_ending ≡ Whole → (state_of c.self.inside.board).opened ≡ (state_of c.self.inside.board).asked = λ is.
    elim c.if-whole.branch [
      | then-whole w ↦ sym c.opened.ensures ∙ w.if-whole.true ∙ c.asked.ensures
      | else-whole w ↦ absurd (cc (sym is ∙ w.desk_ending-is))
    ] in
    desk-may_end c.self.inside.board c.end.new.self c.args.ending c.if-whole.desk_ending
    (subst (λ (s : SessionState). IsSession s.board) (sym c.self.view_is) c.requires.session)
    (subst (λ (s : SessionState). s.board.feeds ≡ 1) (sym c.self.view_is) c.requires.one_feed)
    (ap (λ (b : Recorded). b.start) c.end.ensures.others) (ap (λ (b : Recorded). b.feeds) c.end.ensures.others)
    (ap (λ (b : Recorded). b.desks) c.end.ensures.others) c.end.ensures.entry whole
