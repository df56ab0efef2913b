use Rattle.dual_check.proofs.Common.{◌≡◌, ◌<◌, ℕ, Some, column_of}
use Rattle.dual_check.proofs.pairings.has_column.Given as goal

-- none of the rows so far has the column
abbrev pub invariant-loop-other : goal.invariant-loop-other
invariant-loop-other l = (row : ℕ) → row < l.other-index → column_of l.columns row ≡ Some l.column → ⊥
