use Rattle.adaptive_roads.proofs.Common.{ℕ, IsMarked, AreClosedBelow}
use Rattle.adaptive_roads.proofs.road_hierarchy.marks.mark_upward.Given as goal

abbrev pub invariant-loop-level : goal.invariant-loop-level
invariant-loop-level l = record {
  kept : (node : ℕ) → IsMarked l.initial.marks node → IsMarked l.marks node;
  closed : AreClosedBelow l.fn.descents.starts.items l.fn.descents.uppers.items l.order l.level l.marks;
}
