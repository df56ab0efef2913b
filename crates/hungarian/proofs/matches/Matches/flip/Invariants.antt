use Rattle.hungarian.proofs.Common.{rank_at, IsFlippable, ℕ}
use Rattle.hungarian.proofs.Flipping.{IsFlipping}
use Rattle.hungarian.proofs.matches.Matches.flip.Given as goal

-- the way back so far was taken over, and the rest can be
abbrev pub invariant-loop-next : goal.invariant-loop-next
invariant-loop-next l =
    (root : ℕ) → IsFlippable l.search root l.fn.last l.initial.self → IsFlipping l.search root l.column l.initial.self l.self

-- columns on the way back were settled earlier and earlier
abbrev pub decreases-loop-next : goal.decreases-loop-next
decreases-loop-next l = rank_at l.search l.column
