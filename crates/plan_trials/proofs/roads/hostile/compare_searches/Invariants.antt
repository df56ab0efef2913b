use Rattle.std.proofs.Common.{◌≡◌}
use Rattle.plan_trials.proofs.roads.hostile.compare_searches.Given as goal

abbrev pub invariant-loop-place : goal.invariant-loop-place
invariant-loop-place g l = record {
  times : l.times ≡ l.fn.times;
  search : l.search ≡ l.initial.search;
}
