use Rattle.trip_log.proofs.Common.{◌≢◌, ℕ, ◌<◌, get_or}
use Rattle.trip_log.proofs.cutting.cut.Given as goal

abbrev pub invariant-loop-place : goal.invariant-loop-place
invariant-loop-place l = (k : ℕ) → k < l.place → get_or l.bytes k 0 ≢ l.byte
