use Rattle.fleet_league.proofs.Common.{◌≡◌, length, flat_map, range_with_len, cost_row}
use Rattle.fleet_league.proofs.quoting.prices_in.Given as goal

-- the rows so far are added
abbrev pub invariant-loop-ride : goal.invariant-loop-ride
invariant-loop-ride l = l.cells.items ≡ flat_map (λ ride. cost_row l.table ride (length l.batch.vehicles)) (range_with_len 0 l.ride)
