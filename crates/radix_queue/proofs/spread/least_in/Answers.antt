use Rattle.radix_queue.proofs.Common.{◌≡◌, ◌<◌, ◌+◌, sym, ◌∙◌, subst, arith, slice_get, list_at, Contains-from_get, nodes_left}
use Rattle.radix_queue.proofs.Walked.{IsWalked, walked-start, walked-more, walked-falls, walked-all}
use Rattle.radix_queue.proofs.spread.least_in.Goals as goal
use Rattle.radix_queue.proofs.spread.least_in.Goals.{then-key-least_key, else-key-least_key}

pub loop-current-init : goal.loop-current-init
loop-current-init c =
    walked-start (list_at c.args.buckets.now c.args.lowest.bucket) c.args.keys.now c.next-current.result c.args.lowest.first c.key_at-least_key.result
    c.requires.first (c.next-current.ensures c.args.lowest.bucket 0 c.requires.first) c.key_at-least_key.ensures

pub key_at-key-requires : goal.key_at-key-requires
key_at-key-requires c =
    let w = c.loop-current.invariant in
    c.requires.keyed c.in-Some.node (Contains-from_get (list_at c.args.buckets.now c.args.lowest.bucket) w.place c.in-Some.node (sym w.here ∙ c.in-Some.is))

pub next-current-requires-in-Some : goal.next-current-requires-in-Some
next-current-requires-in-Some c =
    let w = c.loop-current.invariant in
    (c.args.lowest.bucket, Contains-from_get (list_at c.args.buckets.now c.args.lowest.bucket) w.place c.in-Some.node (sym w.here ∙ c.in-Some.is))

next_is : (c : goal.After-next-current-in-Some) → c.next-current-in-Some.result ≡ slice_get (list_at c.args.buckets.now c.args.lowest.bucket) (c.loop-current.invariant.place + 1)
next_is c =
    let w = c.loop-current.invariant in
    c.next-current-in-Some.ensures c.args.lowest.bucket w.place (sym w.here ∙ c.in-Some.is)

pub loop-current-smaller : goal.loop-current-smaller
loop-current-smaller c =
    let nodes = list_at c.args.buckets.now c.args.lowest.bucket in
    let falls : nodes_left c.next-current-in-Some.result nodes < nodes_left c.loop-current.current nodes =
    subst (λ o. nodes_left o nodes < nodes_left c.loop-current.current nodes) (sym (next_is c))
    (walked-falls nodes c.args.keys.now c.loop-current.current c.loop-current.least c.loop-current.least_key c.in-Some.node (c.requires.family.distinct c.args.lowest.bucket) c.loop-current.invariant c.in-Some.is) in
    falls

pub loop-current-preserved : goal.loop-current-preserved
loop-current-preserved c =
    let nodes = list_at c.args.buckets.now c.args.lowest.bucket in
    let keys = c.args.keys.now in
    let w = c.loop-current.invariant in
    let node = c.in-Some.node in
    let here = Contains-from_get nodes w.place node (sym w.here ∙ c.in-Some.is) in
    subst (λ o. IsWalked nodes keys o c.if-key-least_key.least c.if-key-least_key.least_key) (sym (next_is c))
    (elim c.if-key-least_key.branch [
      | then-key-least_key b ↦
          rw (b.least-is, b.least_key-is)
          (walked-more nodes keys c.loop-current.current c.loop-current.least c.loop-current.least_key node c.key_at-key.result node c.key_at-key.result w c.in-Some.is c.key_at-key.ensures here c.key_at-key.ensures (omega arith) (omega arith))
      | else-key-least_key b ↦
          rw (b.least-is, b.least_key-is)
          (walked-more nodes keys c.loop-current.current c.loop-current.least c.loop-current.least_key node c.key_at-key.result c.loop-current.least c.loop-current.least_key w c.in-Some.is c.key_at-key.ensures w.among w.its_key (omega arith) (omega arith))
    ])

pub returns-clause-least : goal.returns-clause-least
returns-clause-least c =
    walked-all (list_at c.args.buckets.now c.args.lowest.bucket) c.args.keys.now c.loop-current.current c.loop-current.least c.loop-current.least_key c.loop-current.invariant c.in_default.is
