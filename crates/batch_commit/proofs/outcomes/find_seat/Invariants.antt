use Rattle.batch_commit.proofs.Common.{◌≡◌, drop, find, ◌==◌, Seat}
use Rattle.batch_commit.proofs.outcomes.find_seat.Given as goal

-- what is found in all is what is found in those that are left
abbrev pub invariant-loop-seat : goal.invariant-loop-seat
invariant-loop-seat l = find (λ (x : Seat). x.request == l.id) l.seats ≡ find (λ (x : Seat). x.request == l.id) (drop l.seat-index l.seats)
