use Rattle.std.proofs.Common.{◌≡◌}
use Rattle.plan_trials.proofs.roads.hostile.compare_rows.Given as goal

abbrev pub invariant-loop-place : goal.invariant-loop-place
invariant-loop-place g l = record {
  room : l.room ≡ l.fn.room;
  search : l.search ≡ l.initial.search;
}
