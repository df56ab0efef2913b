use Rattle.radix_queue.proofs.Common.{list_at, nodes_left}
use Rattle.radix_queue.proofs.Walked.{IsWalked}
use Rattle.radix_queue.proofs.spread.least_in.Given as goal

abbrev pub invariant-loop-current : goal.invariant-loop-current
invariant-loop-current l = IsWalked (list_at l.buckets l.lowest.bucket) l.keys l.current l.least l.least_key

abbrev pub decreases-loop-current : goal.decreases-loop-current
decreases-loop-current l = nodes_left l.current (list_at l.buckets l.lowest.bucket)
