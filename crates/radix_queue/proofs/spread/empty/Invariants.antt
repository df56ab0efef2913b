use Rattle.radix_queue.proofs.Common.{ℕ, length, IsSameSize, IsPlaced}
use Rattle.radix_queue.proofs.Counts.{count_of_keys}
use Rattle.radix_queue.proofs.spread.empty.Given as goal

abbrev pub invariant-loop-lowest : goal.invariant-loop-lowest
invariant-loop-lowest l = record {
  placed : (floor : ℕ) × IsPlaced l.buckets l.keys floor 65 (length l.keys);
  size : IsSameSize l.initial.buckets l.buckets;
}

abbrev pub decreases-loop-lowest : goal.decreases-loop-lowest
decreases-loop-lowest l = count_of_keys l.keys
