use Rattle.adaptive_roads.proofs.Common.{◌≡◌, take, map, level_in}
use Rattle.adaptive_roads.proofs.road_hierarchy.selected.ranks_of.Given as goal

abbrev pub invariant-loop-node : goal.invariant-loop-node
invariant-loop-node l = l.list.items ≡ map (level_in l.levels) (take l.node-index l.nodes)
