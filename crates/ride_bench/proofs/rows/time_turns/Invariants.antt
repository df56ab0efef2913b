use Rattle.std.proofs.Common.{◌≡◌, length}
use Rattle.ride_bench.proofs.rows.time_turns.Given as goal

abbrev pub invariant-loop-turn : goal.invariant-loop-turn
invariant-loop-turn g l = record {
  scratch : l.scratch ≡ l.initial.scratch;
  places : length l.row ≡ length l.initial.row;
}
