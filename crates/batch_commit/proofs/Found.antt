-- What is found first.
use Rattle.batch_commit.proofs.Common.{◌≡◌, ℕ, zero, suc, ◌+◌, ◌<◌, ◌≤◌, Bool, true, false, cond, List, [], ◌∷◌, length, drop, get_or, refl, sym, ◌∙◌, ap, arith, add-one, Option, Some, None, find}

-- what is found from a place on is the element there, or what is found from the next place on
pub find-drop : {X : Type 0} (p : X → Bool) (xs : List X) (i : ℕ) (d : X) → i < length xs
    → find p (drop i xs) ≡ cond (p (get_or xs i d)) (Some (get_or xs i d)) (find p (drop (i + 1) xs))
find-drop p xs i d h = step p xs i d h ∙ ap (λ n. cond (p (get_or xs i d)) (Some (get_or xs i d)) (find p (drop n xs))) (sym (add-one i))
  where
    step : {X : Type 0} (p : X → Bool) (xs : List X) (i : ℕ) (d : X) → i < length xs
        → find p (drop i xs) ≡ cond (p (get_or xs i d)) (Some (get_or xs i d)) (find p (drop (suc i) xs))
    step p [] i d h = absurd (omega arith)
    step p (x ∷ xs) zero d h = refl
    step p (x ∷ xs) (suc i) d h = step p xs i d (omega arith)

-- nothing is found past the end
pub find-past : {X : Type 0} (p : X → Bool) (xs : List X) (i : ℕ) → length xs ≤ i → find p (drop i xs) ≡ None
find-past p [] zero h = refl
find-past p [] (suc i) h = refl
find-past p (x ∷ xs) zero h = absurd (omega arith)
find-past p (x ∷ xs) (suc i) h = find-past p xs i (omega arith)

-- it is the element there that is found
pub find-here : {X : Type 0} (p : X → Bool) (xs : List X) (i : ℕ) (d : X) → i < length xs → p (get_or xs i d) ≡ true
    → find p (drop i xs) ≡ Some (get_or xs i d)
find-here p xs i d h passes = find-drop p xs i d h ∙ ap (λ b. cond b (Some (get_or xs i d)) (find p (drop (i + 1) xs))) passes

-- it is not the element there that is found
pub find-later : {X : Type 0} (p : X → Bool) (xs : List X) (i : ℕ) (d : X) → i < length xs → p (get_or xs i d) ≡ false
    → find p (drop i xs) ≡ find p (drop (i + 1) xs)
find-later p xs i d h fails = find-drop p xs i d h ∙ ap (λ b. cond b (Some (get_or xs i d)) (find p (drop (i + 1) xs))) fails

pub ruleset find_rules = (find-here, find-later, find-past)
