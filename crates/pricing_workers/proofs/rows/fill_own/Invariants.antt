use Rattle.pricing_workers.proofs.Common.{◌≡◌, ◌<◌, ◌≤◌, ℕ, length, get_or, Ride, Times, HasRows, HoldsRows}
use Rattle.pricing_workers.proofs.rows.fill_own.Given as goal

-- the first have their rows, the rest has room for them, and what is searched by is as it was
abbrev pub invariant-loop-place : goal.invariant-loop-place
invariant-loop-place g l =
    (length l.times ≡ length l.requests)
    × ((r : ℕ) (ride : Ride) (own : Times) → r < l.place
    → HoldsRows l.roads.roads (get_or l.requests r ride) l.roads.wanted (get_or l.times r own))
    × ((r : ℕ) (own : Times) → l.place ≤ r → r < length l.times → HasRows (length l.roads.wanted) (get_or l.times r own))
    × (l.scratch ≡ l.initial.scratch)
