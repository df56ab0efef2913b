use Rattle.dual_check.proofs.Common.{◌≤◌, ◌+◌, ◌<◌, ℕ, IfSome, cell_at, price_at}
use Rattle.dual_check.proofs.amounts.Amounts.is_row_covered.Given as goal

-- the price is at most the amounts and payments so far
abbrev pub invariant-loop-column : goal.invariant-loop-column
invariant-loop-column g l = (column : ℕ) → column < l.column
    → IfSome (cell_at (g.Self.Amounts.as_grid l.self) l.row column) (λ amount. l.price ≤ amount + price_at l.pays column)
