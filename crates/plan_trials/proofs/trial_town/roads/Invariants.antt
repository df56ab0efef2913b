use Rattle.std.proofs.Common.{◌≡◌, ◌*◌, ◌+◌, length}
use Rattle.plan_trials.specs.trial_town.Streets.{AreStreets}
use Rattle.plan_trials.proofs.trial_town.roads.Given as goal

-- each arc is a street of the map, and they are few
abbrev pub invariant-loop-node : goal.invariant-loop-node
invariant-loop-node l = record {
  streets : AreStreets 4 l.arcs.items;
  few : length l.arcs.items + 2 ≡ 2 * l.node;
}
