use Rattle.radix_queue.proofs.Common.{◌-◌, arith, w64, bit_at_clear_same, bit_at_clear_other}
use Rattle.radix_queue.proofs.marks.unmarked.Goals as goal

pub returns-clause-cleared : goal.returns-clause-cleared
returns-clause-cleared c pos = bit_at_clear_same w64 c.args.filled (c.args.bucket - 1) (omega arith)

pub returns-clause-others : goal.returns-clause-others
returns-clause-others c place low differs =
    let above = c.if-bucket-eq0.false in
    bit_at_clear_other w64 c.args.filled (c.args.bucket - 1) (omega arith) place low (omega arith)
