use Rattle.hungarian.proofs.Common.{◌≡◌, ride_ids, prices_by}
use Rattle.hungarian.proofs.seating.prices_by.Given as goal

-- the prices of the rows so far
abbrev pub invariant-loop-row : goal.invariant-loop-row
invariant-loop-row l = l.prices.items ≡ prices_by (ride_ids l.requests) l.amounts l.row
