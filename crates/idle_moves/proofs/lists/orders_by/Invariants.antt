use Rattle.idle_moves.proofs.Common.{◌≡◌, List, Vehicle, orders_by, AreStandbys}
use Rattle.idle_moves.proofs.lists.orders_by.Given as goal

-- the orders of the rows so far
abbrev pub invariant-loop-row : goal.invariant-loop-row
invariant-loop-row l = (fleet : List Vehicle) → AreStandbys l.vehicles fleet
    → l.moves.items ≡ orders_by l.grid l.requests fleet l.columns l.row
