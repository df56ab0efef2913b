use Rattle.hungarian.proofs.Common.{◌≡◌, ℕ, ◌<◌, ◌≤◌, get_or, None, IsShortened, IsNearest}
use Rattle.hungarian.proofs.relaxing.relax.Given as goal

-- the columns so far were relaxed, and the others are as they were
abbrev pub invariant-loop-column : goal.invariant-loop-column
invariant-loop-column l = record {
  done : (k : ℕ) → k < l.column
      → IsShortened l.reach (get_or l.cells k None) (get_or l.pays k 0) (get_or l.initial.distances k 0)
      (get_or l.initial.sources k 0)
      (get_or l.distances k 0) (get_or l.sources k 0);
  distances_left : (k : ℕ) → l.column ≤ k → get_or l.distances k 0 ≡ get_or l.initial.distances k 0;
  sources_left : (k : ℕ) → l.column ≤ k → get_or l.sources k 0 ≡ get_or l.initial.sources k 0;
  nearest : IsNearest l.ranks l.distances l.column l.limit l.nearest;
}
