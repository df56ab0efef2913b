use Rattle.radix_queue.proofs.Common.{rules}
use Rattle.radix_queue.proofs.Placed.{placed-none}
use Rattle.radix_queue.proofs.RadixQueue.new.Goals as goal

pub invariant_of-result : goal.invariant_of-result
invariant_of-result c =
    placed-none c.in_ok-buckets.buckets c.in_ok-keys.keys.items c.args.n c.in_ok-buckets.ensures.family c.in_ok-buckets.ensures.lists
    c.in_ok-buckets.ensures.nodes c.in_ok-buckets.ensures.empty (search rules)
