use Rattle.adaptive_roads.proofs.Common.{◌≤◌, length, IsSelectingOf, IsFrom}
use Rattle.adaptive_roads.proofs.road_hierarchy.selected.Selecting.add_contracted.Given as goal

abbrev pub invariant-loop-level : goal.invariant-loop-level
invariant-loop-level l = record {
  low : l.level ≤ length l.order;
  selecting : IsSelectingOf l.fn.hierarchy l.fn.side l.marks (IsFrom l.fn.hierarchy.levels l.level) l.self;
}

abbrev pub decreases-loop-level : goal.decreases-loop-level
decreases-loop-level l = l.level
