use Rattle.fleet_league.proofs.Common.{◌+◌, ◌<◌, ◌≤◌, ChangesOnly}
use Rattle.fleet_league.proofs.UnionFilling.{HasRows}
use Rattle.fleet_league.proofs.unions.fill_block.Given as goal

-- the rows so far were written, and nothing else
abbrev pub invariant-loop-row : goal.invariant-loop-row
invariant-loop-row l = record {
  filled : HasRows l.prices l.grid l.first l.row;
  others : ChangesOnly (λ row place. (row < l.row) × (l.first ≤ place) × (place < l.first + l.prices.columns)) l.initial.grid l.grid;
}
