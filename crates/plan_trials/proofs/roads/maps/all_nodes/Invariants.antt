use Rattle.std.proofs.Common.{◌≡◌, ◌≤◌, length}
use Rattle.std.specs.Prelude.{All}
use Rattle.plan_trials.proofs.roads.maps.all_nodes.Given as goal

abbrev pub invariant-loop-node : goal.invariant-loop-node
invariant-loop-node g l = record {
  fit : All (λ node. (1 ≤ node) × (node ≤ l.nodes)) l.list.items;
  count : length l.list.items ≡ l.node;
}
