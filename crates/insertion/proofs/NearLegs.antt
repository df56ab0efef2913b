-- Legs, read from the times near a ride.
use Rattle.insertion.proofs.Common.{◌≡◌, ℕ, zero, suc, ◌-◌, ◌<◌, ◌≤◌, List, [], ◌∷◌, length, get_or, refl, ◌∙◌, ap, arith, Option, Some, suc-less_one, NearStop, leg_before, leg_after}

-- the leg from the stop before a place that is not the first
pub before-read : (first : Option ℕ) (time_of : NearStop → Option ℕ) (stops : List NearStop) (place : ℕ) (d : NearStop) → (0 < place) → place ≤ length stops
    → time_of (get_or stops (place - 1) d) ≡ leg_before first time_of stops place
before-read first time_of stops zero d some within = absurd (omega arith)
before-read first time_of [] (suc place) d some within = absurd (omega arith)
before-read first time_of (s ∷ stops) (suc zero) d some within = refl
before-read first time_of (s ∷ stops) (suc (suc place)) d some within =
    ap (λ n. time_of (get_or (s ∷ stops) n d)) (suc-less_one place) ∙ before-read (time_of s) time_of stops (suc place) d (omega arith) (omega arith)

-- the leg to the stop at a place
pub after-read : (time_of : NearStop → Option ℕ) (stops : List NearStop) (place : ℕ) (d : NearStop) → place < length stops
    → time_of (get_or stops place d) ≡ leg_after time_of stops place
after-read time_of [] place d within = absurd (omega arith)
after-read time_of (s ∷ stops) zero d within = refl
after-read time_of (s ∷ stops) (suc place) d within = after-read time_of stops place d (omega arith)

pub after-none : (time_of : NearStop → Option ℕ) (stops : List NearStop) (place : ℕ) → length stops ≤ place → Some 0 ≡ leg_after time_of stops place
after-none time_of [] place past = refl
after-none time_of (s ∷ stops) zero past = absurd (omega arith)
after-none time_of (s ∷ stops) (suc place) past = after-none time_of stops place (omega arith)
