use Rattle.std.proofs.Common.{◌≡◌, length}
use Rattle.std.specs.Prelude.{All}
use Rattle.plan_trials.specs.roads.Hostile.{IsHostile}
use Rattle.plan_trials.proofs.roads.hostile.map_of.Given as goal

abbrev pub invariant-loop-place : goal.invariant-loop-place
invariant-loop-place g l = record {
  fit : All IsHostile l.arcs.items;
  count : length l.arcs.items ≡ l.place;
}
