use Rattle.adaptive_roads.proofs.road_hierarchy.Climbing.{IsClimbing}
use Rattle.adaptive_roads.proofs.road_hierarchy.climb.climb.Given as goal

abbrev pub invariant-loop-level : goal.invariant-loop-level
invariant-loop-level l = IsClimbing l.levels l.fn.ascents.starts.items l.fn.ascents.uppers.items l.first l.level l.labels
