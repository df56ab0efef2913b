use Rattle.fleet_league.proofs.Common.{◌≡◌, ◌+◌, ◌<◌, ◌≤◌, ChangesOnly}
use Rattle.fleet_league.proofs.UnionFilling.{HasPrices}
use Rattle.fleet_league.proofs.unions.fill_row.Given as goal

-- the prices so far were written, and nothing else
abbrev pub invariant-loop-vehicle : goal.invariant-loop-vehicle
invariant-loop-vehicle l = record {
  filled : HasPrices l.prices l.grid l.first l.row l.vehicle;
  others : ChangesOnly (λ other place. (other ≡ l.row) × (l.first ≤ place) × (place < l.first + l.vehicle)) l.initial.grid l.grid;
}
