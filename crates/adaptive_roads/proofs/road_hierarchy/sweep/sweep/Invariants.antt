use Rattle.adaptive_roads.proofs.Common.{ℕ, ◌<◌, climb_to, IsSwept}
use Rattle.adaptive_roads.proofs.road_hierarchy.sweep.sweep.Given as goal

abbrev pub invariant-loop-place : goal.invariant-loop-place
invariant-loop-place l = (place : ℕ) → place < l.place → IsSwept l.starts l.steps (climb_to l.ranks l.climbs) l.labels place
