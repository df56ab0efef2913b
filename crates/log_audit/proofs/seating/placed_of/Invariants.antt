use Rattle.log_audit.proofs.Common.{◌≡◌, ℕ, ◌<◌, length, get_or, Seat, Placed, IsPlaced}
use Rattle.log_audit.proofs.seating.placed_of.Given as goal

-- the seats so far have their places
abbrev pub invariant-loop-seat : goal.invariant-loop-seat
invariant-loop-seat l = record {
  count : length l.all.items ≡ l.seat-index;
  each : (k : ℕ) (seat : Seat) (one : Placed) → k < l.seat-index
      → IsPlaced l.initial.pricing l.batch (get_or l.seats k seat) (get_or l.all.items k one);
  kept : l.pricing ≡ l.initial.pricing;
}
