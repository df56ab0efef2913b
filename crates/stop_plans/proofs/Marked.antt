-- A list whose first elements were changed.
use Rattle.stop_plans.proofs.Common.{◌≡◌, ℕ, zero, suc, ◌+◌, ◌<◌, List, [], ◌∷◌, ◌++◌, length, take, drop, get_or, refl, ◌∙◌, ap, arith, sym, add-one, map, slice_set}

-- the next element is the one that was there
pub next-of-changed : {X : Type 0} (f : X → X) (xs : List X) (n : ℕ) (d : X) → n < length xs
    → get_or (map f (take n xs) ++ drop n xs) n d ≡ get_or xs n d
next-of-changed f [] n d h = absurd (omega arith)
next-of-changed f (x ∷ xs) zero d h = refl
next-of-changed f (x ∷ xs) (suc n) d h = next-of-changed f xs n d (omega arith)

-- one more is changed
pub one-more-changed : {X : Type 0} (f : X → X) (xs : List X) (n : ℕ) (d : X) → n < length xs
    → slice_set (map f (take n xs) ++ drop n xs) n (f (get_or xs n d)) ≡ map f (take (n + 1) xs) ++ drop (n + 1) xs
one-more-changed f xs n d h = step f xs n d h ∙ ap (λ k. map f (take k xs) ++ drop k xs) (sym (add-one n))
  where
    step : {X : Type 0} (f : X → X) (xs : List X) (n : ℕ) (d : X) → n < length xs
        → slice_set (map f (take n xs) ++ drop n xs) n (f (get_or xs n d)) ≡ map f (take (suc n) xs) ++ drop (suc n) xs
    step f [] n d h = absurd (omega arith)
    step f (x ∷ xs) zero d h = refl
    step f (x ∷ xs) (suc n) d h = ap (λ rest. f x ∷ rest) (step f xs n d (omega arith))
