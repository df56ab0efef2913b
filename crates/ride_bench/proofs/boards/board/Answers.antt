use Rattle.std.proofs.Common.{arith}
use Rattle.ride_bench.proofs.boards.board.Goals as goal

pub new-requires-clause-start : goal.new-requires-clause-start
new-requires-clause-start c = c.in_ok-fleet.ensures.start _ (record {
  some_batch = omega arith;
  batch_limit = omega arith;
  penalty_limit = omega arith;
  drive_limit = omega arith;
  wait_limit = omega arith;
  lead_limit = omega arith;
  dwell_limit = omega arith;
  log_first = omega arith;
  log_limit = omega arith;
})
