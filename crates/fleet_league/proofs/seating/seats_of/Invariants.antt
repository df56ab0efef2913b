use Rattle.fleet_league.proofs.Common.{◌≡◌, vehicle_ids, ride_ids, seats_by, won_rides, won_columns}
use Rattle.fleet_league.proofs.seating.seats_of.Given as goal

-- the seats of the wins so far
abbrev pub invariant-loop-row : goal.invariant-loop-row
invariant-loop-row l =
    l.seats.items ≡ seats_by l.table (ride_ids (won_rides l.wins)) (vehicle_ids l.vehicles) (won_columns l.vehicles l.wins) l.row
