-- Arrivals read, and the last one.
use Rattle.insertion.proofs.Common.{◌≡◌, ℕ, zero, suc, ◌+◌, ◌-◌, ◌<◌, ◌≤◌, List, [], ◌∷◌, length, get_or, refl, ◌∙◌, ap, arith, Some, None, unwrap_or, last_or, suc-less_one, Vehicle, times_of, drive_of, start_of, leave_at}

-- the arrival before a place that is not the first
pub leave-read : (start dwell : ℕ) (times : List ℕ) (place d : ℕ) → 0 < place → place ≤ length times
    → get_or times (place - 1) d + dwell ≡ leave_at start dwell times place
leave-read start dwell times zero d some within = absurd (omega arith)
leave-read start dwell [] (suc place) d some within = absurd (omega arith)
leave-read start dwell (t ∷ times) (suc zero) d some within = refl
leave-read start dwell (t ∷ times) (suc (suc place)) d some within =
    ap (λ n. get_or (t ∷ times) n d + dwell) (suc-less_one place) ∙ leave-read (t + dwell) dwell times (suc place) d (omega arith) (omega arith)

-- the last arrival, or the start where there is none
abbrev pub last_time : ℕ → List ℕ → ℕ
last_time start [] = start
last_time start (time ∷ times) = last_time time times

pub last-is : (t : ℕ) (ts : List ℕ) → last_or (Some t) ts ≡ Some (last_time t ts)
last-is t [] = refl
last-is t (u ∷ ts) = last-is u ts

-- the drive is up to the last arrival
pub drive-last : (v : Vehicle) (dwell : ℕ) → drive_of v dwell ≡ last_time 0 (times_of v 0 dwell)
drive-last v dwell = by_times (times_of v 0 dwell)
  where
    by_times : (times : List ℕ) → unwrap_or (last_or None times) 0 ≡ last_time 0 times
    by_times [] = refl
    by_times (t ∷ times) = ap (λ o. unwrap_or o 0) (last-is t times)

-- when a vehicle starts
pub start-le : (v : Vehicle) (lead time : ℕ) → v.ready ≤ 1000003600 → lead ≤ 3600 → time ≤ 1000000000 → start_of v lead time ≤ 1000003600
start-le v lead time ready few early = grind arith
