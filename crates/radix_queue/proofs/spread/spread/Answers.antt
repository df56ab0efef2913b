use Rattle.radix_queue.proofs.Common.{◌≡◌, ◌≢◌, ◌<◌, length, sym, ap, ◌∙◌, subst, is_some, list_at, without}
use Rattle.radix_queue.proofs.Marked.{nil-from_first, contains-first}
use Rattle.radix_queue.proofs.Placed.{placed-remove, placed-put, placed-spread, free-removed, waits-lower_at, length-without_first}
use Rattle.radix_queue.proofs.spread.spread.Goals as goal

pub key_at-key-requires : goal.key_at-key-requires
key_at-key-requires c =
    ap is_some (c.loop-node.invariant.waits c.in-Some.node (contains-first (list_at c.loop-node.buckets c.args.bucket) c.first.result c.in-Some.node c.first.ensures.first c.in-Some.is)).1

pub remove-requires-clause-here : goal.remove-requires-clause-here
remove-requires-clause-here c = contains-first (list_at c.loop-node.buckets c.args.bucket) c.first.result c.in-Some.node c.first.ensures.first c.in-Some.is

pub put-requires-clause-free : goal.put-requires-clause-free
put-requires-clause-free c = free-removed c.loop-node.buckets c.remove.new.self c.in-Some.node c.remove.ensures.taken_out

-- the node goes to another bucket
lower : (c : goal.After-put) → c.bucket_of.result ≢ c.args.bucket
lower c =
    let here = contains-first (list_at c.loop-node.buckets c.args.bucket) c.first.result c.in-Some.node c.first.ensures.first c.in-Some.is in
    waits-lower_at c.args.keys.now c.args.floor c.args.bucket c.in-Some.node c.key_at-key.result c.bucket_of.result c.if-bucket-eq0.false
    (c.loop-node.invariant.waits c.in-Some.node here) c.key_at-key.ensures c.bucket_of.ensures.bucket

pub loop-node-smaller : goal.loop-node-smaller
loop-node-smaller c =
    let nodes = list_at c.loop-node.buckets c.args.bucket in
    let left : list_at c.put.new.self c.args.bucket ≡ without c.in-Some.node nodes =
    c.put.ensures.others c.args.bucket (λ e. lower c (sym e)) ∙ c.remove.ensures.taken_out c.args.bucket in
    let falls : length (list_at c.put.new.self c.args.bucket) < length nodes =
    subst (λ ys. length ys < length nodes) (sym left)
    (length-without_first nodes c.in-Some.node (c.loop-node.invariant.family.distinct c.args.bucket) (sym c.first.ensures.first ∙ c.in-Some.is)) in
    falls

pub loop-node-preserved : goal.loop-node-preserved
loop-node-preserved c =
    let out = placed-remove c.loop-node.buckets c.remove.new.self c.args.keys.now c.args.floor c.args.bucket c.in-Some.node c.loop-node.invariant c.remove.ensures.taken_out c.remove.ensures.size c.remove.ensures.family in
    placed-put c.remove.new.self c.put.new.self c.args.keys.now c.args.floor c.args.bucket c.in-Some.node c.key_at-key.result c.bucket_of.result out
    c.key_at-key.ensures c.bucket_of.ensures.bucket (lower c) c.put.ensures.added c.put.ensures.others c.put.ensures.size c.put.ensures.family

pub returns : goal.returns
returns c =
    placed-spread c.loop-node.buckets c.args.keys.now c.args.floor c.args.bucket (length c.args.keys.now) c.loop-node.invariant
    (nil-from_first (list_at c.loop-node.buckets c.args.bucket) (sym c.first.ensures.first ∙ c.in_default.is))
