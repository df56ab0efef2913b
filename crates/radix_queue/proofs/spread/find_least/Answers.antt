use Rattle.radix_queue.proofs.Common.{sym, subst, Option, Some, None, IfNone, IsLeastPlaced, IsLowest}
use Rattle.radix_queue.proofs.Placed.{keyless, keyed-settled, least-first, least-other}
use Rattle.radix_queue.proofs.spread.find_least.Goals as goal

if-none : {X : Type 0} (o : Option X) (P : Type 0) → P → IfNone o P
if-none None P p = p
if-none (Some x) P p = tt

pub returns-in_err-lowest-clause-none : goal.returns-in_err-lowest-clause-none
returns-in_err-lowest-clause-none c =
    if-none c.from_residual.result _ (keyless c.args.buckets.now c.args.keys.now c.args.floor c.requires c.in_err-lowest.ensures.none)

pub returns-then-lowest-eq0-clause-some : goal.returns-then-lowest-eq0-clause-some
returns-then-lowest-eq0-clause-some c =
    least-first c.args.buckets.now c.args.keys.now c.args.floor c.in_ok-lowest.lowest.first c.requires
    (subst (λ b. IsLowest c.args.buckets.now b c.in_ok-lowest.lowest.first) c.if-lowest-eq0.true c.in_ok-lowest.ensures.some)

pub least_in-requires-clause-keyed : goal.least_in-requires-clause-keyed
least_in-requires-clause-keyed c = keyed-settled c.args.buckets.now c.args.keys.now c.args.floor c.requires c.in_ok-lowest.lowest.bucket

pub returns-clause-some : goal.returns-clause-some
returns-clause-some c =
    let found = c.least_in.ensures in
    subst (λ b. IsLeastPlaced c.args.buckets.now c.args.keys.now c.args.floor b c.least_in.result.node c.least_in.result.key) (sym found.bucket)
    (least-other c.args.buckets.now c.args.keys.now c.args.floor c.in_ok-lowest.lowest.bucket c.in_ok-lowest.lowest.first c.least_in.result.node c.least_in.result.key c.requires c.in_ok-lowest.ensures.some found.here found.key found.least)
