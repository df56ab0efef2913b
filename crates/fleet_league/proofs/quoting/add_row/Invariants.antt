use Rattle.fleet_league.proofs.Common.{◌≡◌, ◌++◌, cost_row}
use Rattle.fleet_league.proofs.quoting.add_row.Given as goal

-- the costs of the vehicles so far are added
abbrev pub invariant-loop-vehicle : goal.invariant-loop-vehicle
invariant-loop-vehicle l = l.cells.items ≡ l.initial.cells.items ++ cost_row l.table l.ride l.vehicle
