use Rattle.radix_queue.proofs.Common.{◌≡◌, ◌≢◌, ◌<◌, ◌≤◌, length, set, sym, subst, arith, Some, get_or-set_same, IsPlaced}
use Rattle.radix_queue.proofs.Placed.{placed-rekey, placed-put}
use Rattle.radix_queue.proofs.RadixQueue.put_or_lower.Goals as goal
use Rattle.radix_queue.proofs.RadixQueue.put_or_lower.Goals.{in_default-via-in-None-1, in_default-via-in-Some+else-had-key}

same : (c : goal.After-put) → c.in_default.self-inside ≡ c.self.inside
same c = elim c.in_default.branch [ in_default-via-in-None-1 w ↦ w.self-inside-is | in_default-via-in-Some+else-had-key w ↦ w.self-inside-is ]

pub invariant_of-self : goal.invariant_of-self
invariant_of-self c =
    let keys = c.in_default.self-inside.keys.items in
    let floor = c.in_default.self-inside.floor in
    let node = c.args.node in
    let key = c.args.key in
    let high : floor ≤ key = subst (λ i. i.floor ≤ key) (sym (same c)) (subst (λ v. v.floor ≤ key) (sym c.self.view_is) c.requires.floor) in
    let low : node < length keys = subst (λ i. node < length i.keys.items) (sym (same c)) (subst (λ v. node < length v.keys) (sym c.self.view_is) c.requires.node_in) in
    let out = subst (λ ks. IsPlaced c.withdraw.new.buckets ks floor 65 node) c.as_slice.ensures.value c.withdraw.ensures.placed in
    let rekeyed = placed-rekey c.withdraw.new.buckets keys floor 65 node (Some key) out c.withdraw.ensures.free (λ k e. let one : key ≡ k = cc in subst (λ i. floor ≤ i) one high) low in
    let within = c.bucket_of.ensures.within in
    let shut : c.bucket_of.result ≢ 65 = omega arith in
    placed-put c.withdraw.new.buckets c.put.new.self (set keys node (Some key)) floor 65 node key c.bucket_of.result rekeyed
    (get_or-set_same keys node (Some key) _ low) c.bucket_of.ensures.bucket shut c.put.ensures.added c.put.ensures.others c.put.ensures.size c.put.ensures.family
