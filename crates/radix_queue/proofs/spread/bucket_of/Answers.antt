use Rattle.radix_queue.proofs.Common.{xor_lt}
use Rattle.radix_queue.proofs.Radix.{bucket-from_xor}
use Rattle.radix_queue.proofs.spread.bucket_of.Goals as goal

pub returns-clause-bucket : goal.returns-clause-bucket
returns-clause-bucket c =
    bucket-from_xor c.args.floor c.args.key (xor_lt 64 c.args.floor c.args.key c.ranges.floor.fits c.ranges.key.fits)
