use Rattle.std.proofs.Common.{◌≡◌, length}
use Rattle.plan_trials.specs.trial_town.Streets.{AreStreets}
use Rattle.ride_bench.proofs.grid.drawn.Given as goal

abbrev pub invariant-loop-place : goal.invariant-loop-place
invariant-loop-place l = record {
  fit : AreStreets l.nodes l.arcs.items;
  count : length l.arcs.items ≡ l.place;
}
