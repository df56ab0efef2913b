use Rattle.dual_check.proofs.Common.{◌<◌, ℕ, take, column_of, IsFree}
use Rattle.dual_check.proofs.pairings.has_columns_once.Given as goal

-- the columns of the rows so far are of none of the rows before
abbrev pub invariant-loop-row : goal.invariant-loop-row
invariant-loop-row l = (row : ℕ) → row < l.row → IsFree (take row l.columns) (column_of l.columns row)
