-- What holds of each element of a list that is made of pieces, or over a range.
use Rattle.city_maker.proofs.Common.{ℕ, zero, suc, ◌+◌, ◌*◌, ◌<◌, ◌≤◌, List, [], ◌∷◌, length, map, sym, subst, arith, All, flat_map, range_with_len, enumerate_from, length-append, All-nil, All-cons, All-head, All-tail, All-append, All-map, All-from_get_or, length-range_with_len, get_or-range_with_len}

pub All-range : (P : ℕ → Type 0) (a n : ℕ) → ((k : ℕ) → a ≤ k → k < a + n → P k) → All P (range_with_len a n)
All-range P a n each = All-from_get_or P (range_with_len a n) 0 (λ i below.
    let few : i < n = omega (arith, length-range_with_len a n) in
    subst P (sym (get_or-range_with_len a n i 0 few)) (each (a + i) (omega arith) (omega arith)))

pub All-map_range : {X : Type 0} (P : X → Type 0) (f : ℕ → X) (a n : ℕ) → ((k : ℕ) → a ≤ k → k < a + n → P (f k))
    → All P (map f (range_with_len a n))
All-map_range P f a n each = All-map P f (range_with_len a n) (All-range (λ k. P (f k)) a n each)

pub All-flat_map : {X A : Type 0} (P : A → Type 0) (f : X → List A) (xs : List X) → All (λ x. All P (f x)) xs → All P (flat_map f xs)
All-flat_map P f [] all = All-nil P
All-flat_map P f (x ∷ xs) all =
    All-append P (f x) (flat_map f xs) (All-head (λ x. All P (f x)) x xs all) (All-flat_map P f xs (All-tail (λ x. All P (f x)) x xs all))

pub All-flat_map_range : {A : Type 0} (P : A → Type 0) (f : ℕ → List A) (a n : ℕ) → ((k : ℕ) → a ≤ k → k < a + n → All P (f k))
    → All P (flat_map f (range_with_len a n))
All-flat_map_range P f a n each = All-flat_map P f (range_with_len a n) (All-range (λ k. All P (f k)) a n each)

-- numbered elements
pub All-enumerate : {X : Type 0} (P : X → Type 0) (n : ℕ) (xs : List X) → All P xs → All (λ (numbered : ℕ × X). P numbered.1) (enumerate_from n xs)
All-enumerate P n [] all = All-nil _
All-enumerate {X} P n (x ∷ xs) all =
    All-cons (λ (numbered : ℕ × X). P numbered.1) (n, x) (enumerate_from (n + 1) xs) (All-head P x xs all)
    (All-enumerate P (n + 1) xs (All-tail P x xs all))

-- pieces of at most so many elements each
pub length-flat_map_range_le : {A : Type 0} (f : ℕ → List A) (most a n : ℕ) → ((k : ℕ) → length (f k) ≤ most)
    → length (flat_map f (range_with_len a n)) ≤ most * n
length-flat_map_range_le f most a zero few = omega arith
length-flat_map_range_le f most a (suc n) few =
    let rest = length-flat_map_range_le f most (a + 1) n few in
    omega (arith, length-append (f a) (flat_map f (range_with_len (a + 1) n)), few a)
