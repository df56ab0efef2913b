use Rattle.hungarian.proofs.Common.{◌≡◌, ℕ, ◌*◌, ◌<◌, ◌≤◌, length, None, cell_at, cost_of}
use Rattle.batch_commit.specs.inner.Table.{cell_at as offer_at}
use Rattle.hungarian.proofs.costs.cost_grid.Given as goal

-- the rows so far were written
abbrev pub invariant-loop-row : goal.invariant-loop-row
invariant-loop-row l = record {
  sized : length l.grid.cells ≡ l.grid.rows * l.grid.columns;
  rows : l.grid.rows ≡ l.rows;
  columns : l.grid.columns ≡ l.columns;
  filled : (row column : ℕ) → row < l.row → column < l.columns → cell_at l.grid row column
      ≡ cost_of (offer_at l.table row column);
  left : (row column : ℕ) → l.row ≤ row → row < l.rows → column < l.columns → cell_at l.grid row column ≡ None;
}
