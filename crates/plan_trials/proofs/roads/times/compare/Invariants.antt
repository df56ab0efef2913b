use Rattle.std.proofs.Common.{◌≡◌, length}
use Rattle.plan_trials.proofs.roads.times.compare.Given as goal

abbrev pub invariant-loop-place : goal.invariant-loop-place
invariant-loop-place g l = record {
  times : l.times ≡ l.fn.times;
  places : length l.row ≡ length l.fn.row;
}
