use Rattle.radix_queue.proofs.Common.{◌<◌, length, set, ap, ◌∙◌, None, replicate, get_or-set_same, list_at, Contains-from_get, Stands}
use Rattle.radix_queue.proofs.Counts.{count_of_keys, count_of_keys-falls, key_in-within, no_keys}
use Rattle.radix_queue.proofs.Placed.{stands-settled, keyless, placed-remove, placed-rekey, placed-keyless, free-removed}
use Rattle.radix_queue.proofs.spread.empty.Goals as goal

has_key : (c : goal.After-struct_known-1) → Stands c.loop-lowest.keys c.loop-lowest.invariant.placed.0 c.in-Some.lowest.bucket c.in-Some.lowest.first
has_key c =
    let lowest = c.in-Some.ensures.some in
    stands-settled c.loop-lowest.buckets c.loop-lowest.keys c.loop-lowest.invariant.placed.0 (length c.loop-lowest.keys) c.loop-lowest.invariant.placed.1 c.in-Some.lowest.bucket c.in-Some.lowest.first
    (Contains-from_get (list_at c.loop-lowest.buckets c.in-Some.lowest.bucket) 0 c.in-Some.lowest.first lowest.first_node)

pub bounds-keys-lowest : goal.bounds-keys-lowest
bounds-keys-lowest c = key_in-within c.loop-lowest.keys c.in-Some.lowest.first (has_key c).0 (has_key c).1

pub loop-lowest-smaller : goal.loop-lowest-smaller
loop-lowest-smaller c =
    let falls : count_of_keys (set c.loop-lowest.keys c.in-Some.lowest.first None) < count_of_keys c.loop-lowest.keys =
    count_of_keys-falls c.loop-lowest.keys c.in-Some.lowest.first (has_key c).0 (has_key c).1 in
    falls

pub loop-lowest-preserved : goal.loop-lowest-preserved
loop-lowest-preserved c =
    let floor = c.loop-lowest.invariant.placed.0 in
    let keys = c.loop-lowest.keys in
    let node = c.in-Some.lowest.first in
    let low : node < length keys = key_in-within keys node (has_key c).0 (has_key c).1 in
    let out = placed-remove c.loop-lowest.buckets c.remove.new.self keys floor 65 node c.loop-lowest.invariant.placed.1 c.remove.ensures.taken_out c.remove.ensures.size c.remove.ensures.family in
    let rekeyed = placed-rekey c.remove.new.self keys floor 65 node None out (free-removed c.loop-lowest.buckets c.remove.new.self node c.remove.ensures.taken_out) (λ key e. cc) low in
    record {
      placed = (floor, placed-keyless c.remove.new.self (set keys node None) floor 65 node rekeyed (get_or-set_same keys node None None low) (length (set keys node None)));
      size = record {
        nodes = c.remove.ensures.size.nodes ∙ c.loop-lowest.invariant.size.nodes;
        lists = c.remove.ensures.size.lists ∙ c.loop-lowest.invariant.size.lists;
      };
    }

pub returns-clause-keys : goal.returns-clause-keys
returns-clause-keys c =
    let (floor, placed) = c.loop-lowest.invariant.placed in
    no_keys c.loop-lowest.keys (keyless c.loop-lowest.buckets c.loop-lowest.keys floor placed c.in_default.ensures.none)
    ∙ ap (λ n. replicate n None) c.loop-lowest.auto.keys
