-- Filters of lists, and tests of whether any element passes.
use Rattle.model_laws.proofs.Common.{◌≡◌, Bool, true, false, List, [], ◌∷◌, ◌++◌, refl, ap, ◌||◌, ◌&&◌, AllByRecursion, list_any}
use Rattle.std.specs.Prelude.{filter}

-- two filters come in either order
pub filter-filter : {X : Type 0} (p q : X → Bool) (xs : List X) → filter p (filter q xs) ≡ filter q (filter p xs)
filter-filter p q [] = refl
filter-filter {X} p q (x ∷ xs) = by (filter-filter p q xs) (p x) (q x) refl refl
  where
    by : filter p (filter q xs) ≡ filter q (filter p xs) → (b c : Bool) → p x ≡ b → q x ≡ c
        → filter p (filter q (x ∷ xs)) ≡ filter q (filter p (x ∷ xs))
    by ih true true at also = rw (at, also, at) (ap (λ rest. x ∷ rest) ih)
    by ih true false at also = rw (at, also) ih
    by ih false true at also = rw (at, also, at) ih
    by ih false false at also = rw (at, also) ih

-- what every element passes keeps them all
pub filter-all : {X : Type 0} (p : X → Bool) (xs : List X) → AllByRecursion (λ x. p x ≡ true) xs → filter p xs ≡ xs
filter-all p [] h = refl
filter-all p (x ∷ xs) (at, rest) = rw at (ap (λ r. x ∷ r) (filter-all p xs rest))

pub filter-none : {X : Type 0} (p : X → Bool) (xs : List X) → AllByRecursion (λ x. p x ≡ false) xs → filter p xs ≡ []
filter-none p [] h = refl
filter-none p (x ∷ xs) (at, rest) = rw at (filter-none p xs rest)

-- filters that agree on the elements
pub filter-same : {X : Type 0} (p q : X → Bool) (xs : List X) → AllByRecursion (λ x. p x ≡ q x) xs → filter p xs ≡ filter q xs
filter-same p q [] h = refl
filter-same p q (x ∷ xs) (at, rest) = by (filter-same p q xs rest) (q x) refl
  where
    by : filter p xs ≡ filter q xs → (b : Bool) → q x ≡ b → filter p (x ∷ xs) ≡ filter q (x ∷ xs)
    by ih true also = rw (at, also) (ap (λ r. x ∷ r) ih)
    by ih false also = rw (at, also) ih

pub any-append : {X : Type 0} (p : X → Bool) (xs ys : List X) → list_any p (xs ++ ys) ≡ (list_any p xs || list_any p ys)
any-append p [] ys = refl
any-append p (x ∷ xs) ys = by (any-append p xs ys) (p x) refl
  where
    by : list_any p (xs ++ ys) ≡ (list_any p xs || list_any p ys) → (b : Bool) → p x ≡ b
        → list_any p (x ∷ xs ++ ys) ≡ (list_any p (x ∷ xs) || list_any p ys)
    by ih true at = rw at refl
    by ih false at = rw at ih

-- two filters as one
pub filter-and : {X : Type 0} (p q : X → Bool) (xs : List X) → filter p (filter q xs) ≡ filter (λ x. q x && p x) xs
filter-and p q [] = refl
filter-and {X} p q (x ∷ xs) = by (filter-and p q xs) (q x) (p x) refl refl
  where
    by : filter p (filter q xs) ≡ filter (λ y. q y && p y) xs → (b c : Bool) → q x ≡ b → p x ≡ c
        → filter p (filter q (x ∷ xs)) ≡ filter (λ y. q y && p y) (x ∷ xs)
    by ih true true at also = rw (at, also) (ap (λ r. x ∷ r) ih)
    by ih true false at also = rw (at, also) ih
    by ih false c at also = rw at ih
