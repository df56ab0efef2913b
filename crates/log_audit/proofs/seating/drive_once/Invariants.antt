use Rattle.log_audit.proofs.Common.{map, take, nat_eq, IsDistinct, Seat}
use Rattle.log_audit.proofs.seating.drive_once.Given as goal

-- the vehicles of the seats so far differ
abbrev pub invariant-loop-place : goal.invariant-loop-place
invariant-loop-place l = IsDistinct nat_eq (map (λ (seat : Seat). seat.vehicle) (take l.place l.seats))
