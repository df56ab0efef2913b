use Rattle.adaptive_roads.proofs.Common.{◌≡◌, ◌++◌, take, map, step_from}
use Rattle.adaptive_roads.proofs.road_hierarchy.selected.append_steps.Given as goal

abbrev pub invariant-loop-upper : goal.invariant-loop-upper
invariant-loop-upper l = l.steps.items ≡ l.initial.steps.items ++ map (step_from l.places) (take l.upper-index l.uppers)
