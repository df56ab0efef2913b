use Rattle.adaptive_roads.proofs.Common.{ℕ, ◌<◌, ◌≢◌, upper_at, IsMarked}
use Rattle.adaptive_roads.proofs.road_hierarchy.marks.mark_uppers.Given as goal

abbrev pub invariant-loop-upper : goal.invariant-loop-upper
invariant-loop-upper l = record {
  marked : (place : ℕ) → place < l.upper-index → IsMarked l.marks (upper_at l.uppers place).node;
  kept : (node : ℕ) → IsMarked l.initial.marks node → IsMarked l.marks node;
  others : (node : ℕ) → ((place : ℕ) → place < l.upper-index → (upper_at l.uppers place).node ≢ node)
      → IsMarked l.marks node → IsMarked l.initial.marks node;
}
