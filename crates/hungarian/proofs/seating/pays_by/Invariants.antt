use Rattle.hungarian.proofs.Common.{◌≡◌, vehicle_ids, pays_by}
use Rattle.hungarian.proofs.seating.pays_by.Given as goal

-- what the columns so far pay
abbrev pub invariant-loop-column : goal.invariant-loop-column
invariant-loop-column l = l.pays.items ≡ pays_by (vehicle_ids l.vehicles) l.amounts l.column
