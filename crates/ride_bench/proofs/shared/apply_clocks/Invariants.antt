use Rattle.std.proofs.Common.{◌≡◌, false, length}
use Rattle.ride_model.specs.declared.command.Actor.TheVariants.{Feed}
use Rattle.ride_model.specs.State.{has_ended}
use Rattle.board_core.specs.Recorded.{state_of}
use Rattle.ride_bench.proofs.shared.apply_clocks.Given as goal

-- the feed goes on, and each command so far is an entry
abbrev pub invariant-loop-time : goal.invariant-loop-time
invariant-loop-time l = record {
  feeds : l.board.feeds ≡ 2;
  not_ended : has_ended (state_of l.board) (Feed 1) ≡ false;
  count : length l.board.history ≡ l.time;
}
