use Rattle.std.proofs.Common.{ap, ◌∙◌}
use Rattle.std.proofs.lemmas.Result.{IfOk-at_ok}
use Rattle.seating_trials.proofs.OneCell.{left_out_certified}
use Rattle.seating_trials.proofs.outcomes.left_out.Goals as goal

pub tie-requires-clause-certified : goal.tie-requires-clause-certified
tie-requires-clause-certified g c =
    let answer = c.expect-answer.result in
    let is = IfOk-at_ok _ c.expect-answer.ensures c.of.ensures in
    left_out_certified c.batch-batch.result c.of-table.result c.one.result.items answer.seating answer.prices answer.pays
    c.batch-batch.ensures c.of-table.ensures c.one.ensures (ap (λ a. a.seating) is ∙ c.of-seating.ensures ∙ c.new.ensures.items)
    (ap (λ a. a.prices) is ∙ c.of-prices.ensures ∙ c.one-2.ensures)
    (ap (λ a. a.pays) is ∙ c.of-pays.ensures ∙ c.new-2.ensures.items)
