use Rattle.std.proofs.Common.{◌≡◌, ◌≤◌, length}
use Rattle.std.specs.Prelude.{All}
use Rattle.ride_model.specs.declared.network.RoadArc.{RoadArc}
use Rattle.plan_trials.proofs.roads.maps.network.Given as goal

abbrev pub invariant-loop-arc : goal.invariant-loop-arc
invariant-loop-arc g l = record {
  fit : All (λ (arc : RoadArc). ((1 ≤ arc.tail) × (arc.tail ≤ l.nodes)) × ((1 ≤ arc.head) × (arc.head ≤ l.nodes)) × (arc.seconds ≤ 1000000000)) l.list.items;
  count : length l.list.items ≡ l.arc-index;
}
