use Rattle.idle_moves.proofs.Common.{◌≡◌, List, Vehicle, vehicle_ids, pays_by, AreStandbys}
use Rattle.idle_moves.proofs.lists.pays_by.Given as goal

-- what the columns so far pay
abbrev pub invariant-loop-column : goal.invariant-loop-column
invariant-loop-column l = (fleet : List Vehicle) → AreStandbys l.vehicles fleet
    → l.pays.items ≡ pays_by (vehicle_ids fleet) l.amounts l.column
