use Rattle.std.proofs.Common.{◌≡◌}
use Rattle.ride_bench.proofs.assignment.fill_row.Given as goal

-- the grid's size stays
abbrev pub invariant-loop-column : goal.invariant-loop-column
invariant-loop-column l = record {
  rows : l.grid.rows ≡ l.initial.grid.rows;
  columns : l.grid.columns ≡ l.initial.grid.columns;
}
