use Rattle.adaptive_roads.proofs.Common.{◌≡◌, ℕ, ◌<◌, get_or, Neighbor, IsGraph, HasShortcuts, IsCovered}
use Rattle.adaptive_roads.proofs.contraction.shortcuts.cover.Given as goal

abbrev pub invariant-loop-onward : goal.invariant-loop-onward
invariant-loop-onward l = record {
  graph : IsGraph l.graph;
  grown : HasShortcuts l.node l.initial.graph l.graph;
  covered : (place : ℕ) (onward : Neighbor) → place < l.onward-index → get_or l.outs place onward ≡ onward → IsCovered l.graph l.node l.into onward;
}
