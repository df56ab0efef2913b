use Rattle.board_core.proofs.Common.{sym, subst, IsTrue, ◌↔◌, IsFinished, start_state, Recorded}
use Rattle.board_core.proofs.Finished.{finished-is}
use Rattle.board_core.proofs.board.Board.finished.Goals as goal

pub returns : goal.returns
returns c =
    subst (λ (b : Recorded). IsTrue c.is_finished.result ↔ IsFinished b.feeds b.desks b.start b.history) c.self.view_is
    (subst (λ t. IsTrue t ↔ IsFinished c.self.inside.feeds c.self.inside.desks
    (start_state c.self.inside.setup.roads c.self.inside.setup.settings c.self.inside.start) c.self.inside.history.items) (sym c.is_finished.ensures)
    (finished-is _ _ _ _ _ c.self.invariant))
