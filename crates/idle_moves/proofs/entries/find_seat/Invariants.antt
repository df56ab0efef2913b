use Rattle.idle_moves.proofs.Common.{◌≡◌, drop, find, ◌==◌, Seat}
use Rattle.idle_moves.proofs.entries.find_seat.Given as goal

-- what is found in all is what is found in those that are left
abbrev pub invariant-loop-seat : goal.invariant-loop-seat
invariant-loop-seat l =
    find (λ (x : Seat). x.request == l.request) l.seats ≡ find (λ (x : Seat). x.request == l.request) (drop l.seat-index l.seats)
