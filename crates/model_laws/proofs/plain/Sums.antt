-- Sums over lists.
use Rattle.model_laws.proofs.Common.{◌≡◌, ℕ, ◌+◌, ◌*◌, ◌≤◌, List, [], ◌∷◌, length, refl, sym, ◌∙◌, ap, mul-suc, arith, map, sum_by, AllByRecursion, sum_by-cons}

-- a sum of lesser terms is less
pub sum_by-le-each : {X : Type 0} (f g : X → ℕ) (xs : List X) → AllByRecursion (λ x. f x ≤ g x) xs → sum_by f xs ≤ sum_by g xs
sum_by-le-each f g [] h = omega arith
sum_by-le-each f g (x ∷ xs) (first, rest) =
    omega (arith, first, sum_by-le-each f g xs rest, sum_by-cons f x xs, sum_by-cons g x xs)

-- a sum of sums is the sum of both
pub sum_by-add : {X : Type 0} (f g : X → ℕ) (xs : List X) → sum_by (λ x. f x + g x) xs ≡ sum_by f xs + sum_by g xs
sum_by-add f g [] = refl
sum_by-add f g (x ∷ xs) =
    omega (arith, sum_by-add f g xs, sum_by-cons f x xs, sum_by-cons g x xs, sum_by-cons (λ y. f y + g y) x xs)

-- a sum over images
pub sum_by-map : {X Y : Type 0} (f : Y → ℕ) (g : X → Y) (xs : List X) → sum_by f (map g xs) ≡ sum_by (λ x. f (g x)) xs
sum_by-map f g [] = refl
sum_by-map f g (x ∷ xs) =
    sum_by-cons f (g x) (map g xs) ∙ ap (λ n. f (g x) + n) (sum_by-map f g xs) ∙ sym (sum_by-cons (λ y. f (g y)) x xs)

-- a sum of terms of at most m
pub sum_by-le-times : {X : Type 0} (f : X → ℕ) (m : ℕ) (xs : List X) → AllByRecursion (λ x. f x ≤ m) xs → sum_by f xs ≤ m * length xs
sum_by-le-times f m [] h = omega arith
sum_by-le-times f m (x ∷ xs) (first, rest) =
    omega (arith, first, sum_by-le-times f m xs rest, sum_by-cons f x xs, mul-suc m (length xs))
