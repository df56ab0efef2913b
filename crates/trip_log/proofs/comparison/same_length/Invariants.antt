use Rattle.trip_log.proofs.Common.{◌≡◌, ◌≤◌, ◌-◌, length, take}
use Rattle.trip_log.proofs.comparison.same_length.Given as goal

abbrev pub invariant-loop-same : goal.invariant-loop-same
invariant-loop-same l = record {
  in_piece : l.same ≤ length l.piece;
  in_line : l.same ≤ length l.line;
  equal : take l.same l.piece ≡ take l.same l.line;
}

abbrev pub decreases-loop-same : goal.decreases-loop-same
decreases-loop-same l = length l.piece - l.same
