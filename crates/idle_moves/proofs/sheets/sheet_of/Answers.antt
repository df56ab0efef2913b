use Rattle.idle_moves.proofs.Common.{◌≤◌, ◌*◌, length, sum, ap, arith, All-weaker, sum_by-le}
use Rattle.idle_moves.proofs.sheets.sheet_of.Goals as goal

pub cost_by-requires-clause-limit : goal.cost_by-requires-clause-limit
cost_by-requires-clause-limit c =
    let prices = c.args.paired.now.prices in
    let most : sum prices ≤ length prices * 1000000
    = sum_by-le (λ x. x) 1000000 prices
    (All-weaker (λ price. price ≤ c.args.reach) (λ price. price ≤ 1000000)
    (λ price capped. omega (arith, capped, c.requires.reach_limit)) prices c.requires.certified.capped) in
    omega (
      arith,
      most,
      ap sum c.items-prices.ensures,
      c.requires.certified.prices_each,
      c.requires.rows_are,
      c.requires.few,
    )
