use Rattle.std.proofs.Common.{subst}
use Rattle.ride_bench.specs.Shared.{MayLook}
use Rattle.ride_bench.proofs.Begun.{begins}
use Rattle.ride_bench.proofs.shared.share.Goals as goal

pub returns : goal.returns
returns c =
    let passes = c.passes_of.result in
    let made = c.passes_of.ensures in
    let new = c.in_ok-shared.ensures in
    record {
      first = begins c.in_ok-shared.shared c.in_ok-fresh.fresh 1 passes.first (rw made.first at new.feed_1);
      second = begins c.in_ok-shared.shared c.in_ok-fresh.fresh 2 passes.second (rw made.second at new.feed_2).1;
      scribe = subst (MayLook c.in_ok-shared.shared) made.scribe (record { may_use = new.scribe.0; point = new.scribe_point });
    }
