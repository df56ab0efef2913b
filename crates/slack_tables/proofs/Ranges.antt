-- Ranges of places, and the least over them.
use Rattle.slack_tables.proofs.Common.{◌≡◌, ℕ, zero, suc, ◌+◌, ◌-◌, ◌<◌, ◌≤◌, ◌++◌, List, [], ◌∷◌, refl, sym, ◌∙◌, ap, append_assoc, arith, map, Option, None, range_with_len, lesser, least_of, Trip, no_limit, room_of}

-- a range from its first number on
pub range-on : (n j : ℕ) → j < n → range_with_len j (n - j) ≡ j ∷ range_with_len (j + 1) (n - (j + 1))
range-on n j h = ap (range_with_len j) (count n j h)
  where
    count : (m k : ℕ) → k < m → m - k ≡ suc (m - (k + 1))
    count m k h = omega arith

-- what is made of a range, one number after another
pub made-on : {X : Type 0} (f : ℕ → X) (so_far : List X) (n j : ℕ) → j < n
    → (so_far ++ f j ∷ []) ++ map f (range_with_len (j + 1) (n - (j + 1))) ≡ so_far ++ map f (range_with_len j (n - j))
made-on f so_far n j h =
    append_assoc so_far (f j ∷ []) (map f (range_with_len (j + 1) (n - (j + 1))))
    ∙ ap (λ places. so_far ++ map f places) (sym (range-on n j h))

-- a range that is over
pub range-over : (n j : ℕ) → n ≤ j → range_with_len j (n - j) ≡ []
range-over n j h = ap (range_with_len j) (none n j h)
  where
    none : (m k : ℕ) → m ≤ k → m - k ≡ 0
    none m k h = omega arith

-- the same values have the same least
pub least-same : (f g : ℕ → Option ℕ) (from many : ℕ) → ((k : ℕ) → from ≤ k → k < from + many → f k ≡ g k)
    → least_of (map f (range_with_len from many)) ≡ least_of (map g (range_with_len from many))
least-same f g from zero same = refl
least-same f g from (suc many) same =
    ap (λ o. lesser o (least_of (map f (range_with_len (from + 1) many)))) (same from (omega arith) (omega arith))
    ∙ ap (lesser (g from)) (least-same f g (from + 1) many (λ k low high. same k (omega arith) (omega arith)))

-- no values have no least
pub least-none : (f : ℕ → Option ℕ) (from many : ℕ) → ((k : ℕ) → from ≤ k → k < from + many → f k ≡ None)
    → least_of (map f (range_with_len from many)) ≡ None
least-none f from zero none = refl
least-none f from (suc many) none =
    ap (λ o. lesser o (least_of (map f (range_with_len (from + 1) many)))) (none from (omega arith) (omega arith))
    ∙ least-none f (from + 1) many (λ k low high. none k (omega arith) (omega arith))

-- no room is above the limit
pub room_of-le : (trips : List Trip) (change place : ℕ) → room_of trips change place ≤ no_limit
room_of-le [] change place = omega arith
room_of-le (trip ∷ trips) change place = omega (arith, room_of-le trips change place)
