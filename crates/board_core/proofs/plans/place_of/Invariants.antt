use Rattle.board_core.proofs.Common.{◌≡◌, ℕ, ◌<◌, false, get_or, Stop, is_visit}
use Rattle.board_core.proofs.plans.place_of.Given as goal

-- no stop so far is the visit
abbrev pub invariant-loop-place : goal.invariant-loop-place
invariant-loop-place l = (k : ℕ) (d : Stop) → k < l.place → is_visit l.id l.kind (get_or l.stops k d) ≡ false
