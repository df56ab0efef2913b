use Rattle.pricing_workers.proofs.Common.{subst, IfOk-weaker, IsRoadMap, HasSmallCosts, IsTableOf}
use Rattle.pricing_workers.proofs.SmallCosts.{small-costs}
use Rattle.pricing_workers.proofs.batches.price_batch_by.Goals as goal

pub returns-clause-small : goal.returns-clause-small
returns-clause-small g c =
    let roads = c.args.pricer.now in
    let batch = c.args.batch.now in
    IfOk-weaker c.priced.result (IsTableOf roads batch) HasSmallCosts
    (λ table is. small-costs roads batch table (subst IsRoadMap c.roads.ensures c.nodes-nodes.ensures.fits) c.requires.priceable.over_map is)
    c.priced.ensures.table
