use Rattle.std.proofs.Common.{arith}
use Rattle.league_trials.proofs.DaySides.{rises-more, rising-differ}
use Rattle.league_trials.proofs.sides.do_ids_rise.Goals as goal

pub loop-place-preserved : goal.loop-place-preserved
loop-place-preserved c =
    rises-more c.args.rides.now c.loop-place.place _ _ (omega arith) c.loop-place-test.true c.if-rides-place.false c.loop-place.invariant

pub returns : goal.returns
returns c true_now = rising-differ c.args.rides.now (λ i j d before low. c.loop-place.invariant i j d before (omega (arith, low)))
