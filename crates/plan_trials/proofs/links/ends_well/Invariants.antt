use Rattle.std.proofs.Common.{◌≡◌, length}
use Rattle.plan_trials.proofs.links.ends_well.Given as goal

abbrev pub invariant-loop-step : goal.invariant-loop-step
invariant-loop-step g l = record {
  nodes : l.links.nodes ≡ 6;
  lists : length l.links.lists ≡ 2;
}
