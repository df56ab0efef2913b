use Rattle.fleet_league.proofs.Common.{◌≡◌, sym, ap, subst, ◌∙◌, IfOk-weaker, RoadMap, BatchCopy, IsPriceable, IsTableOf, state_of, won_rides, quoting_batch}
use Rattle.fleet_league.proofs.company.Company.price_won.Goals as goal

pub price_batch-requires-clause-priceable : goal.price_batch-requires-clause-priceable
price_batch-requires-clause-priceable g c κs within =
    subst (λ (m : RoadMap). IsPriceable m c.in_ok-batch.batch) (sym c.requires.roads) c.in_ok-batch.ensures.priceable

pub returns-clause-table : goal.returns-clause-table
returns-clause-table g c =
    let board = c.args.self.now.board in
    let rides = won_rides c.args.wins.now in
    let batch : c.in_ok-batch.batch ≡ quoting_batch (state_of board) rides
    = c.in_ok-batch.ensures.batch ∙ ap (quoting_batch (state_of board)) (c.deref.ensures.value ∙ c.in_ok-rides.ensures) in
    IfOk-weaker c.price_batch.result _ _ (λ table of.
    subst (λ (m : RoadMap). IsTableOf m (quoting_batch (state_of board) rides) table) c.requires.roads
    (subst (λ (b : BatchCopy). IsTableOf c.args.pricer.now b table) batch of)) c.price_batch.ensures.table
