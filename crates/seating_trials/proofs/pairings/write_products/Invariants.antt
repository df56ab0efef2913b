use Rattle.std.proofs.Common.{◌≡◌}
use Rattle.seating_trials.proofs.pairings.write_products.Given as goal

-- the grid keeps its size
abbrev pub invariant-loop-column : goal.invariant-loop-column
invariant-loop-column l = (l.grid.rows ≡ 8) × (l.grid.columns ≡ 30)
