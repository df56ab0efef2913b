use Rattle.std.proofs.Common.{ap, ◌∙◌}
use Rattle.std.proofs.lemmas.Result.{IfOk-at_ok}
use Rattle.seating_trials.proofs.OneCell.{seated_certified}
use Rattle.seating_trials.proofs.outcomes.seated.Goals as goal

pub tie-requires-clause-certified : goal.tie-requires-clause-certified
tie-requires-clause-certified g c =
    let answer = c.expect-answer.result in
    let is = IfOk-at_ok _ c.expect-answer.ensures c.of.ensures in
    seated_certified c.args.lead c.batch-batch.result c.of-table.result c.offer.result c.one.result.items answer.seating answer.prices
    answer.pays c.batch-batch.ensures c.of-table.ensures c.one.ensures c.offer.ensures.i c.offer.ensures.j
    c.offer.ensures.cost (ap (λ a. a.seating) is ∙ c.of-seating.ensures ∙ c.one-2.ensures)
    (ap (λ a. a.prices) is ∙ c.of-prices.ensures ∙ c.one-3.ensures)
    (ap (λ a. a.pays) is ∙ c.of-pays.ensures ∙ c.new.ensures.items)
