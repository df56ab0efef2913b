use Rattle.std.proofs.Common.{◌≡◌, ◌≤◌, length}
use Rattle.std.specs.Prelude.{All}
use Rattle.ride_model.specs.declared.network.RoadArc.{RoadArc}
use Rattle.plan_trials.proofs.roads.adaptations.ring.Given as goal

abbrev pub invariant-loop-node : goal.invariant-loop-node
invariant-loop-node g l = record {
  fit : All (λ (arc : RoadArc). ((1 ≤ arc.tail) × (arc.tail ≤ 9)) × ((1 ≤ arc.head) × (arc.head ≤ 9)) × (arc.seconds ≤ 1000000000)) l.arcs.items;
  count : length l.arcs.items ≡ l.node;
}
