use Rattle.std.proofs.Common.{ℕ, ◌+◌, ap, ◌∙◌}
use Rattle.turn_lock.specs.Passes.{knowledge}
use Rattle.ride_bench.proofs.ClockRuns.{one-more}
use Rattle.ride_bench.proofs.shared.submit_clocks.Goals as goal

pub loop-time-preserved : goal.loop-time-preserved
loop-time-preserved g c = record {
  feed = record {
    may_use = c.submit.ensures.pass;
    point = c.submit.ensures.point;
    feed = c.submit.ensures.feed;
  };
  count = one-more (knowledge c.loop-time.feed).own (knowledge c.submit.new.pass).own _ _ _ c.in_ok-_reply.ensures.entry.appends.own_grows
      ∙ ap (λ (n : ℕ). n + 1) c.loop-time.invariant.count;
}
