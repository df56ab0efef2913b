use Rattle.dual_check.proofs.Common.{arith, row_cost, column_of}
use Rattle.dual_check.proofs.PairingParts.{sum_by-range-more}
use Rattle.dual_check.proofs.pairings.cost_of.Goals as goal

pub loop-row-preserved : goal.loop-row-preserved
loop-row-preserved g c =
    let grid = g.T.Amounts.as_grid c.args.table.now in
    let more = sum_by-range-more (λ row. row_cost grid c.args.penalty row (column_of c.args.columns.now row)) c.loop-row.row in
    record {
      so_far = omega (arith, more, c.cost_of_row.ensures, c.from-cost.ensures, c.loop-row.invariant.so_far);
      limit =
          omega arith;
    }
