use Rattle.std.proofs.Common.{◌≡◌, length}
use Rattle.turn_lock.specs.Passes.{knowledge}
use Rattle.fleet_board.specs.inner.Passes.{commands_in}
use Rattle.fleet_board.specs.Roles.{MayFeed}
use Rattle.ride_bench.proofs.shared.submit_clocks.Given as goal

-- the feed goes on, and each command so far is an entry of its own
abbrev pub invariant-loop-time : goal.invariant-loop-time
invariant-loop-time g l = record {
  feed : MayFeed l.board l.feed;
  count : length (commands_in (knowledge l.feed).own) ≡ l.time;
}
