use Rattle.dual_check.proofs.Common.{◌<◌, ℕ, price_at, CoversRow}
use Rattle.dual_check.proofs.certificates.are_rows_covered.Given as goal

-- the prices of the rows so far are at most the amounts and payments
abbrev pub invariant-loop-row : goal.invariant-loop-row
invariant-loop-row g l = (row : ℕ) → row < l.row → CoversRow (g.T.Amounts.as_grid l.table) row (price_at l.prices row) l.pays
