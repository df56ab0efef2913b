use Rattle.std.proofs.Common.{◌≤◌, ◌*◌, length}
use Rattle.plan_trials.specs.trial_town.Streets.{AreStreets}
use Rattle.ride_bench.proofs.grid.generate.Given as goal

-- the streets fit, and each crossing so far has added at most four arcs
abbrev pub invariant-loop-place : goal.invariant-loop-place
invariant-loop-place l = record {
  fit : AreStreets l.grid.nodes l.arcs.items;
  few : length l.arcs.items ≤ 4 * l.place;
}
