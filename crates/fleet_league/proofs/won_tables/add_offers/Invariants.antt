use Rattle.fleet_league.proofs.Common.{◌≡◌, ◌++◌, offer_row}
use Rattle.fleet_league.proofs.won_tables.add_offers.Given as goal

-- the offers of the vehicles so far are added
abbrev pub invariant-loop-vehicle : goal.invariant-loop-vehicle
invariant-loop-vehicle l = l.cells.items ≡ l.initial.cells.items ++ offer_row l.table l.row l.vehicle
