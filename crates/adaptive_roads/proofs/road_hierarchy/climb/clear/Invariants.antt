use Rattle.adaptive_roads.proofs.Common.{◌≡◌, ℕ, ◌<◌, node_at, never}
use Rattle.adaptive_roads.proofs.road_hierarchy.climb.clear.Given as goal

abbrev pub invariant-loop-label : goal.invariant-loop-label
invariant-loop-label l = (level : ℕ) → level < l.label-index → node_at l.labels level ≡ never
