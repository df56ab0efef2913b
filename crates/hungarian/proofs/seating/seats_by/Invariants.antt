use Rattle.hungarian.proofs.Common.{◌≡◌, ride_ids, vehicle_ids, seats_by}
use Rattle.hungarian.proofs.seating.seats_by.Given as goal

-- the seats of the rows so far
abbrev pub invariant-loop-row : goal.invariant-loop-row
invariant-loop-row l = l.seats.items ≡ seats_by l.table (ride_ids l.requests) (vehicle_ids l.vehicles) l.columns l.row
