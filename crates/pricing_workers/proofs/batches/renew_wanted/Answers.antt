use Rattle.pricing_workers.proofs.Common.{sym, subst, All, IsNode}
use Rattle.pricing_workers.proofs.Nodes.{nodes-on-map}
use Rattle.pricing_workers.proofs.batches.renew_wanted.Goals as goal

pub returns-clause-inside : goal.returns-clause-inside
returns-clause-inside c =
    let roads = c.args.roads.now in
    subst (All (IsNode roads)) (sym c.in_ok-renew.ensures.nodes_are) (nodes-on-map roads c.args.batch.now.vehicles c.requires.priceable.lawful)
