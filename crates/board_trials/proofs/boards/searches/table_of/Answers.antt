use Rattle.std.proofs.Common.{sym, subst, ◌∙◌}
use Rattle.ride_model.specs.Road.{RoadMap}
use Rattle.batch_commit.specs.inner.Table.{IsPriceable}
use Rattle.board_core.proofs.OpenBatches.{open-priceable}
use Rattle.board_trials.proofs.boards.searches.table_of.Goals as goal

pub price_batch_by-requires-clause-priceable : goal.price_batch_by-requires-clause-priceable
price_batch_by-requires-clause-priceable g c κs within =
    let batch = c.args.batch.now in
    subst (λ (r : RoadMap). IsPriceable r batch) (sym (c.in_ok-pricer.ensures ∙ c.requires.roads))
    (open-priceable c.args.board.now batch.desk batch.number batch c.entries-history.ensures.start c.entries-history.ensures.legal c.requires.held)
