use Rattle.dual_check.proofs.Common.{◌<◌, ℕ, column_of, StandsInCell}
use Rattle.dual_check.proofs.pairings.stands_in_cells.Given as goal

-- the columns of the rows so far have amounts there
abbrev pub invariant-loop-row : goal.invariant-loop-row
invariant-loop-row g l = (row : ℕ) → row < l.row → StandsInCell (g.T.Amounts.as_grid l.table) row (column_of l.columns row)
