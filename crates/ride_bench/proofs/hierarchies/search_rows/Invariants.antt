use Rattle.std.proofs.Common.{◌≡◌, length}
use Rattle.ride_bench.proofs.hierarchies.search_rows.Given as goal

abbrev pub invariant-loop-turn : goal.invariant-loop-turn
invariant-loop-turn l = record {
  scratch : l.scratch ≡ l.initial.scratch;
  places : length l.row.items ≡ length l.initial.row.items;
}
