use Rattle.radix_queue.proofs.Common.{◌-◌, arith, w64, bit_at_set_same, bit_at_set_other}
use Rattle.radix_queue.proofs.marks.marked.Goals as goal

pub returns-clause-set : goal.returns-clause-set
returns-clause-set c pos = bit_at_set_same w64 c.args.filled (c.args.bucket - 1) (omega arith)

pub returns-clause-others : goal.returns-clause-others
returns-clause-others c place low differs =
    let above = c.if-bucket-eq0.false in
    bit_at_set_other w64 c.args.filled (c.args.bucket - 1) (omega arith) place (omega arith)
