use Rattle.board_core.proofs.Common.{subst, HasText, Recorded}
use Rattle.model_laws.proofs.history_laws.HistoryTexts.{has_text}
use Rattle.board_core.proofs.board.Board.entries.Goals as goal

pub returns-clause-text : goal.returns-clause-text
returns-clause-text c =
    let r = c.self.invariant.recorded in
    subst (λ (b : Recorded). HasText b.start.settings.log b.feeds b.desks b.history) c.self.view_is
    (has_text _ _ _ _ r.start_fits r.feeds_fit r.desks_fit r.legal r.fed_within)
