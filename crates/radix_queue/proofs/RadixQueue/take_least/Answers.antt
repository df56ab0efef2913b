use Rattle.radix_queue.proofs.Common.{length, sym, subst, IsPlaced, IsLeastPlaced, opened_by}
use Rattle.radix_queue.proofs.Placed.{placed-taken}
use Rattle.radix_queue.proofs.RadixQueue.take_least.Goals as goal

pub spread-requires-clause-placed : goal.spread-requires-clause-placed
spread-requires-clause-placed c =
    let keys = c.self.inside.keys.items in
    let least = c.in_ok-least.least in
    let found = subst (λ ks. IsLeastPlaced c.self.inside.buckets ks c.self.inside.floor least.bucket least.node least.key) c.as_slice.ensures.value c.in_ok-least.ensures.some in
    subst (λ ks. IsPlaced c.remove.new.self ks least.key (opened_by least.bucket) (length ks)) (sym c.as_slice-2.ensures.value)
    (placed-taken c.self.inside.buckets c.remove.new.self keys c.self.inside.floor least.bucket least.node least.key c.self.invariant found c.remove.ensures.taken_out c.remove.ensures.size c.remove.ensures.family)
