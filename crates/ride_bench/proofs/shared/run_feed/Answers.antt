use Rattle.std.proofs.Common.{◌≡◌, ℕ, sym, subst}
use Rattle.std.specs.Prelude.{OnOk}
use Rattle.turn_lock.specs.Passes.{knowledge}
use Rattle.fleet_board.proofs.MayEnd.{feed-may_end}
use Rattle.ride_bench.proofs.ClockRuns.{no-more}
use Rattle.ride_bench.proofs.shared.run_feed.Goals as goal

pub end-requires-clause-may_end : goal.end-requires-clause-may_end
end-requires-clause-may_end g c =
    feed-may_end (knowledge c.submit_clocks-submitted.new.feed) _ c.submit_clocks-submitted.ensures.feed.point c.submit_clocks-submitted.ensures.feed.feed

pub returns : goal.returns
returns g c = record {
  submitted = subst (λ (n : ℕ). OnOk c.submit_clocks-submitted.result (n ≡ c.args.count))
      (sym (no-more (knowledge c.submit_clocks-submitted.new.feed).own (knowledge c.end.new.pass).own _ _ c.end.ensures.entry.appends.own_grows))
      c.submit_clocks-submitted.ensures.submitted;
}
