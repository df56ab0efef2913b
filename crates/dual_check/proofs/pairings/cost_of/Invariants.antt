use Rattle.dual_check.proofs.Common.{◌≡◌, ◌≤◌, ◌*◌, ◌^◌, range_with_len, row_cost, column_of}
use Rattle.std.proofs.Common.{sum_by}
use Rattle.dual_check.proofs.pairings.cost_of.Given as goal

-- the cost of the rows so far
abbrev pub invariant-loop-row : goal.invariant-loop-row
invariant-loop-row g l = record {
  so_far : l.cost
      ≡ sum_by (λ row. row_cost (g.T.Amounts.as_grid l.table) l.penalty row (column_of l.columns row)) (range_with_len 0 l.row);
  limit : l.cost ≤ l.row * 2 ^ 64;
}
