use Rattle.dual_check.proofs.Common.{◌≡◌, ◌≤◌, ◌*◌, ◌^◌, sum, take}
use Rattle.dual_check.proofs.prices.total.Given as goal

-- the sum so far
abbrev pub invariant-loop-amount : goal.invariant-loop-amount
invariant-loop-amount l = record {
  so_far : l.total ≡ sum (take l.amount-index l.amounts);
  limit : l.total ≤ l.amount-index * 2
      ^ 64;
}
