use Rattle.std.proofs.Common.{◌≡◌, length}
use Rattle.plan_trials.proofs.roads.hierarchies.expect_travels.Given as goal

abbrev pub invariant-loop-place : goal.invariant-loop-place
invariant-loop-place g l = record {
  times : l.times ≡ l.fn.times;
  places : length l.row.items ≡ length l.initial.row.items;
}
