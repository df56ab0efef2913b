use Rattle.board_core.proofs.Common.{eqb, sym, subst, IsDistinct, ride_ids}
use Rattle.board_core.proofs.Few.{distinct-waiting}
use Rattle.board_core.proofs.service.Service.batch.Goals as goal

pub of-requires-clause-ids_differ : goal.of-requires-clause-ids_differ
of-requires-clause-ids_differ c =
    subst (λ rides. IsDistinct eqb (ride_ids rides)) (sym c.in_ok-requests.ensures)
    (distinct-waiting c.args.self.now.requests c.settings-settings.result.batch c.len-many.ensures.is_book.ids_differ)
