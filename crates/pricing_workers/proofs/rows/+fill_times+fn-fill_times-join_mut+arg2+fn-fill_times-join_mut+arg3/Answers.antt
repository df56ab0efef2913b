use Rattle.pricing_workers.proofs.Common.{rules}
use Rattle.pricing_workers.proofs.Filling.{parts-whole}
use Rattle.pricing_workers.proofs.HeldTimes.{held-halves}
use Rattle.pricing_workers.proofs.rows.+fill_times+fn-fill_times-join_mut+arg2+fn-fill_times-join_mut+arg3.Goals as goal

pub returns-clause-times : goal.returns-clause-times
returns-clause-times g t c =
    let roads = c.args.roads.now in
    let front = c.split_at.result.0.now in
    let back = c.split_at.result.1.now in
    let requests = c.args.requests.now in
    let parts = parts-whole front back requests _ c.split_at.ensures.front c.split_at.ensures.back in
    search (rules, held-halves roads.roads roads.wanted front back requests parts)
