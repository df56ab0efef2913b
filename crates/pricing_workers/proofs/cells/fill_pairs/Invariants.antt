use Rattle.pricing_workers.proofs.Common.{◌≡◌, ◌+◌, ◌*◌, ◌<◌, ℕ, length, get_or, None, Ride, Vehicle, IsCellOf}
use Rattle.pricing_workers.proofs.cells.fill_pairs.Given as goal

-- the first cells are filled, and there are as many as there were
abbrev pub invariant-loop-place : goal.invariant-loop-place
invariant-loop-place l =
    (length l.cells ≡ length l.initial.cells)
    × ((k r c : ℕ) (ride : Ride) (v : Vehicle) → k < l.place → c < length l.job.batch.now.vehicles
    → r * length l.job.batch.now.vehicles + c ≡ l.first + k
    → IsCellOf l.job.roads.now.roads l.job.batch.now (get_or l.requests r ride) (get_or l.job.batch.now.vehicles c v) (get_or l.cells k None))
