use Rattle.board_core.proofs.Common.{◌≤◌, ℕ, List, length, ◌∙◌, ap, subst, arith, sum_by, BatchCopy, IsSettings, Answer}
use Rattle.board_core.proofs.Few.{prices-below}
use Rattle.board_core.proofs.board.batches.cost_of.Goals as goal
use Rattle.board_core.proofs.board.batches.cost_of.Goals.{After-answer-answer}

-- the prices are far below 2^64
below : (c : After-answer-answer) → sum_by (λ (item : ℕ × ℕ). item.1) c.args.solved.now.answer.prices ≤ 128000000000000
below c =
    let certified = c.answer-answer.ensures.certified in
    let settings = subst (λ (b : BatchCopy). IsSettings b.settings) c.batch-2.ensures c.settings-settings.ensures.settings_fit in
    prices-below c.args.solved.now.answer.prices c.args.solved.now.batch.requests c.args.solved.now.batch.settings.penalty
    certified.capped certified.each_priced settings.penalty_limit
    (subst (λ (b : BatchCopy). length b.requests ≤ 128) c.batch.ensures c.requests-requests.ensures.few)

pub total-requires : goal.total-requires
total-requires c =
    omega (
      arith,
      below (goal.at-total-requires c).After-answer-answer,
      ap (λ (amounts : List (ℕ × ℕ)). sum_by (λ (item : ℕ × ℕ). item.1) amounts)
          (c.items.ensures ∙ ap (λ (a : Answer). a.prices) c.answer-answer.ensures.answer),
    )
