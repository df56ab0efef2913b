use Rattle.radix_queue.proofs.Common.{length, list_at, IsPlaced}
use Rattle.radix_queue.proofs.spread.spread.Given as goal

abbrev pub invariant-loop-node : goal.invariant-loop-node
invariant-loop-node l = IsPlaced l.buckets l.keys l.floor l.bucket (length l.keys)

abbrev pub decreases-loop-node : goal.decreases-loop-node
decreases-loop-node l = length (list_at l.buckets l.bucket)
