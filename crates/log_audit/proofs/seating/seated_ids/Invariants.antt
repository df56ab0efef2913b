use Rattle.log_audit.proofs.Common.{◌≡◌, filter, take, has_seat, ride_ids}
use Rattle.log_audit.proofs.seating.seated_ids.Given as goal

-- the ids so far
abbrev pub invariant-loop-ride : goal.invariant-loop-ride
invariant-loop-ride l = l.ids.items ≡ filter (has_seat l.seats) (ride_ids (take l.ride-index l.requests))
