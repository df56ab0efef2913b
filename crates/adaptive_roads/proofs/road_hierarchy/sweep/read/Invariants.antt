use Rattle.adaptive_roads.proofs.Common.{◌≡◌, take, map, time_of, node_at, never}
use Rattle.adaptive_roads.proofs.road_hierarchy.sweep.read.Given as goal

abbrev pub invariant-loop-wanted : goal.invariant-loop-wanted
invariant-loop-wanted l = take l.wanted l.into ≡ map (λ place. time_of never (node_at l.labels place)) (take l.wanted l.places)
