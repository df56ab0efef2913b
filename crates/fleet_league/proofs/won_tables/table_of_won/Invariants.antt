use Rattle.fleet_league.proofs.Common.{◌≡◌, take}
use Rattle.fleet_league.proofs.WonTables.{won_offers}
use Rattle.fleet_league.proofs.won_tables.table_of_won.Given as goal

-- the rows of the wins so far are copied
abbrev pub invariant-loop-win : goal.invariant-loop-win
invariant-loop-win l = l.cells.items ≡ won_offers l.table l.rides l.vehicles (take l.win-index l.wins)
