use Rattle.adaptive_roads.proofs.Common.{◌≡◌, take, map, node_at}
use Rattle.adaptive_roads.proofs.road_hierarchy.selected.places_of.Given as goal

abbrev pub invariant-loop-node : goal.invariant-loop-node
invariant-loop-node l = l.list.items ≡ map (node_at l.places) (take l.node-index l.wanted)
