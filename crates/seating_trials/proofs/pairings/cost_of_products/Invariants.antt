use Rattle.std.proofs.Common.{◌≡◌}
use Rattle.seating_trials.proofs.pairings.cost_of_products.Given as goal

-- the grid keeps its size
abbrev pub invariant-loop-row : goal.invariant-loop-row
invariant-loop-row g l = (l.grid.rows ≡ 8) × (l.grid.columns ≡ 30)
