use Rattle.dual_check.proofs.Common.{◌≤◌, ◌+◌, ◌<◌, ℕ, length, slice_index_or, None, IfSome, MatchBool, price_at}
use Rattle.dual_check.proofs.amounts.are_cells_covered.Given as goal

-- whether the price is at most the amounts and payments so far
abbrev pub invariant-loop-cell : goal.invariant-loop-cell
invariant-loop-cell l = MatchBool l.covered
    ((column : ℕ) → column < length l.yielded
    → IfSome (slice_index_or l.cells column None) (λ amount. l.price ≤ amount + price_at l.pays column))
    (((column : ℕ) → column < length l.yielded
    → IfSome (slice_index_or l.cells column None) (λ amount. l.price ≤ amount + price_at l.pays column)) → ⊥)
