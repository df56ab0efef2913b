use Rattle.radix_queue.proofs.Common.{length, arith}
use Rattle.radix_queue.proofs.Placed.{here-settled, free-settled, placed-remove, free-removed}
use Rattle.radix_queue.proofs.spread.withdraw.Goals as goal

pub remove-requires-clause-here : goal.remove-requires-clause-here
remove-requires-clause-here c =
    let low = c.requires.node_in in
    here-settled c.args.buckets.now c.args.keys.now c.args.floor (length c.args.keys.now) c.requires.placed c.args.node c.in-Some.had c.bucket_of.result (omega arith) c.in-Some.is c.bucket_of.ensures.bucket

pub returns-in-Some-clause-placed : goal.returns-in-Some-clause-placed
returns-in-Some-clause-placed c =
    placed-remove c.args.buckets.now c.remove.new.self c.args.keys.now c.args.floor 65 c.args.node c.requires.placed c.remove.ensures.taken_out c.remove.ensures.size c.remove.ensures.family

pub returns-in-Some-clause-free : goal.returns-in-Some-clause-free
returns-in-Some-clause-free c = free-removed c.args.buckets.now c.remove.new.self c.args.node c.remove.ensures.taken_out

pub returns-in_default-clause-free : goal.returns-in_default-clause-free
returns-in_default-clause-free c =
    free-settled c.args.buckets.now c.args.keys.now c.args.floor (length c.args.keys.now) c.requires.placed c.args.node c.in_default.is
