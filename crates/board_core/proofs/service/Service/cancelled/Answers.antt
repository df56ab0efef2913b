use Rattle.board_core.proofs.Common.{length, length-append, ap, arith, ◌∷◌, [], refl, was_cancelled, state_at}
use Rattle.board_core.proofs.Marked.{flags-more}
use Rattle.board_core.proofs.service.Service.cancelled.Goals as goal

pub loop-ride-preserved : goal.loop-ride-preserved
loop-ride-preserved c = record {
  flags = λ setup rest.
      flags-more (was_cancelled (state_at setup c.args.self.now rest)) c.args.rides.now c.loop-ride.ride-index _ c.is_cancelled.result
      c.loop-ride.flags.items c.push.new.self.items c.loop-ride-test.true (c.loop-ride.invariant.flags setup rest) c.push.ensures.items
      (c.is_cancelled.ensures (state_at setup c.args.self.now rest) refl);
  one_each = omega (
    arith,
    ap length c.push.ensures.items,
    length-append c.loop-ride.flags.items (c.is_cancelled.result ∷ []),
    c.loop-ride.invariant.one_each,
  );
}
