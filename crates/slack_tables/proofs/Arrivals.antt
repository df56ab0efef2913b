-- Arrivals, and when a vehicle leaves for a place.
use Rattle.slack_tables.proofs.Common.{◌≡◌, ℕ, zero, suc, ◌+◌, ◌-◌, ◌<◌, ◌≤◌, List, [], ◌∷◌, length, get_or, refl, ◌∙◌, ap, arith, suc-less_one, leave-read, leave_at, last_time}

-- the last arrival
pub last-read : (start : ℕ) (times : List ℕ) (d : ℕ) → 0 < length times → get_or times (length times - 1) d ≡ last_time start times
last-read start [] d some = absurd (omega arith)
last-read start (t ∷ []) d some = refl
last-read start (t ∷ u ∷ times) d some =
    ap (λ n. get_or (t ∷ u ∷ times) n d) (suc-less_one (length times)) ∙ last-read t (u ∷ times) d (omega arith)
