use Rattle.dual_check.proofs.Common.{◌≡◌, take, map, seat_place}
use Rattle.dual_check.proofs.spreads.places_of.Given as goal

-- the places so far
abbrev pub invariant-loop-seat : goal.invariant-loop-seat
invariant-loop-seat l = l.places.items ≡ map (seat_place l.fleet) (take l.seat-index l.seats)
