use Rattle.link_lists.proofs.Common.{◌≡◌, ℕ, ◌<◌, length, IsAlone}
use Rattle.link_lists.proofs.circles.alone.Given as goal

abbrev pub invariant-loop-place : goal.invariant-loop-place
invariant-loop-place l = record {
  long : length l.table.items ≡ l.place;
  alone : (place : ℕ) → place < l.place → IsAlone l.table.items place;
}
