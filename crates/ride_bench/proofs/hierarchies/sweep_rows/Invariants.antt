use Rattle.std.proofs.Common.{◌≡◌, length}
use Rattle.ride_bench.proofs.hierarchies.sweep_rows.Given as goal

abbrev pub invariant-loop-turn : goal.invariant-loop-turn
invariant-loop-turn l = record {
  room : l.room ≡ l.initial.room;
  places : length l.row.items ≡ length l.initial.row.items;
}
