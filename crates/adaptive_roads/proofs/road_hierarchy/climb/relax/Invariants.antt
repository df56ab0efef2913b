use Rattle.adaptive_roads.proofs.Common.{IsRelaxed}
use Rattle.adaptive_roads.proofs.road_hierarchy.climb.relax.Given as goal

abbrev pub invariant-loop-upper : goal.invariant-loop-upper
invariant-loop-upper l = IsRelaxed l.levels l.uppers l.upper-index l.fn.label l.initial.labels l.labels
