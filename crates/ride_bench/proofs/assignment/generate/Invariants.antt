use Rattle.std.proofs.Common.{◌≡◌}
use Rattle.ride_bench.proofs.assignment.generate.Given as goal

-- the grid's size stays
abbrev pub invariant-loop-row : goal.invariant-loop-row
invariant-loop-row l = record {
  rows : l.grid.rows ≡ l.initial.grid.rows;
  columns : l.grid.columns ≡ l.initial.grid.columns;
}
