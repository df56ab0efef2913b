use Rattle.std.proofs.Common.{ℕ, ◌+◌, length, ap, ◌∙◌, arith}
use Rattle.board_core.specs.Recorded.{Recorded}
use Rattle.board_core.proofs.OpenBatches.{fed-le}
use Rattle.ride_bench.proofs.ClockRuns.{none-ended, still-feeds, one-longer}
use Rattle.ride_bench.proofs.shared.apply_clocks.Goals as goal

pub loop-time-init : goal.loop-time-init
loop-time-init c = record {
  feeds = c.requires.feeds;
  not_ended = none-ended c.args.board.now 1 c.requires.history c.entries-entries.ensures.start;
  count = ap length c.requires.history;
}

pub apply-requires-clause-few : goal.apply-requires-clause-few
apply-requires-clause-few c =
    omega (arith, fed-le 1 c.loop-time.board.history, c.loop-time.invariant.count, c.loop-time.auto.time-end, c.requires.count)

pub loop-time-preserved : goal.loop-time-preserved
loop-time-preserved c = record {
  feeds = ap (λ (b : Recorded). b.feeds) c.apply.ensures.others ∙ c.loop-time.invariant.feeds;
  not_ended = still-feeds c.loop-time.board c.apply.new.self 1 _ (ap (λ (b : Recorded). b.start) c.apply.ensures.others)
      c.in_ok-_reply.ensures.entry c.loop-time.invariant.not_ended;
  count = one-longer _ _ _ c.in_ok-_reply.ensures.entry ∙ ap (λ (n : ℕ). n + 1) c.loop-time.invariant.count;
}
