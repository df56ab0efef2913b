use Rattle.radix_queue.proofs.Common.{◌≡◌, ◌+◌, ◌-◌, sym, subst, arith, w64, bit_at, trailing_zeros, bit_at-trailing_zeros}
use Rattle.radix_queue.proofs.marks.lowest_marked.Goals as goal

pub returns-clause-set : goal.returns-clause-set
returns-clause-set c =
    let lowest = bit_at-trailing_zeros w64 c.args.filled c.requires c.ranges.filled.fits in
    let place : trailing_zeros w64 c.args.filled + 1 - 1 ≡ trailing_zeros w64 c.args.filled = omega arith in
    subst (λ i. bit_at c.args.filled i ≡ 1) (sym place) lowest.1

pub returns-clause-below : goal.returns-clause-below
returns-clause-below c place low =
    let lowest = bit_at-trailing_zeros w64 c.args.filled c.requires c.ranges.filled.fits in
    lowest.2 place (omega arith)
