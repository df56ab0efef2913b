use Rattle.trip_log.proofs.Common.{arith, take_rest}
use Rattle.trip_log.proofs.CutLemmas.{cut_at-place, cut_at-none}
use Rattle.trip_log.proofs.cutting.cut.Goals as goal

pub returns-then-b-byte : goal.returns-then-b-byte
returns-then-b-byte c =
    rw take_rest (cut_at-place c.args.byte c.args.bytes.now c.loop-place.place (omega arith) c.loop-place.invariant c.if-b-byte.true)

pub returns : goal.returns
returns c = cut_at-none c.args.byte c.args.bytes.now (λ k below. c.loop-place.invariant k (omega arith))
