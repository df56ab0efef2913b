-- Lists over the numbers of a range, with one number more.
use Rattle.city_maker.proofs.Common.{◌≡◌, ℕ, zero, suc, ◌+◌, ◌-◌, ◌≤◌, List, [], ◌∷◌, ◌++◌, length, map, sym, ap, ◌∙◌, append_assoc, add-one, arith, flat_map, range_with_len, enumerate_from, append-nil, map-range_with_len_more}

pub flat_map-range_more : {A : Type 0} (f : ℕ → List A) (a n j : ℕ) → a + n ≡ j
    → flat_map f (range_with_len a (n + 1)) ≡ flat_map f (range_with_len a n) ++ f j
flat_map-range_more f a zero j is =
    let same : a ≡ j = omega arith in append-nil (f a) ∙ ap f same
flat_map-range_more f a (suc n) j is =
    rw (add-one (suc n))
    (rw (add-one n) at (ap (λ xs. f a ++ xs) (flat_map-range_more f (a + 1) n j (omega arith)))
    ∙ sym (append_assoc (f a) (flat_map f (range_with_len (a + 1) n)) (f j)))

-- one element more is numbered by how many come before it
pub enumerate_from-push : {X : Type 0} (n : ℕ) (xs : List X) (x : X)
    → enumerate_from n (xs ++ x ∷ []) ≡ enumerate_from n xs ++ (n + length xs, x) ∷ []
enumerate_from-push n [] x = let same : n ≡ n + 0 = omega arith in ap (λ k. (k, x) ∷ []) same
enumerate_from-push n (y ∷ xs) x =
    let same : n + 1 + length xs ≡ n + suc (length xs) = omega arith in
    ap (λ zs. (n, y) ∷ zs) (enumerate_from-push (n + 1) xs x ∙ ap (λ k. enumerate_from (n + 1) xs ++ (k, x) ∷ []) same)

-- a list over a range with what the next number gives
pub map-pushed : {A : Type 0} (f : ℕ → A) (n : ℕ) (old new : List A) (x : A) → new ≡ old ++ x ∷ [] → old ≡ map f (range_with_len 0 n) → x ≡ f n
    → new ≡ map f (range_with_len 0 (n + 1))
map-pushed f n old new x pushed made is =
    let next : 0 + n ≡ n = omega arith in
    pushed ∙ ap (λ xs. xs ++ x ∷ []) made ∙ ap (λ y. map f (range_with_len 0 n) ++ y ∷ []) is ∙ sym (map-range_with_len_more f 0 n n next)

-- the same behind another list, for a range from a to b
pub map-pushed_behind : {A : Type 0} (f : ℕ → A) (a b : ℕ) (base old new : List A) (x : A) → a ≤ b → new ≡ old ++ x ∷ []
    → old ≡ base ++ map f (range_with_len a (b - a)) → x ≡ f b → new ≡ base ++ map f (range_with_len a (b + 1 - a))
map-pushed_behind f a b base old new x up pushed made is =
    let next : a + (b - a) ≡ b = omega arith in
    let many : b - a + 1 ≡ b + 1 - a = omega arith in
    pushed ∙ ap (λ xs. xs ++ x ∷ []) made ∙ ap (λ y. (base ++ map f (range_with_len a (b - a))) ++ y ∷ []) is
    ∙ append_assoc base (map f (range_with_len a (b - a))) (f b ∷ [])
    ∙ ap (λ xs. base ++ xs) (sym (map-range_with_len_more f a (b - a) b next) ∙ ap (λ n. map f (range_with_len a n)) many)

-- pieces over a range with what the next number gives
pub flat_map-pushed : {A : Type 0} (f : ℕ → List A) (n : ℕ) (old new : List A) → new ≡ old ++ f n → old ≡ flat_map f (range_with_len 0 n)
    → new ≡ flat_map f (range_with_len 0 (n + 1))
flat_map-pushed f n old new pushed made =
    let next : 0 + n ≡ n = omega arith in
    pushed ∙ ap (λ xs. xs ++ f n) made ∙ sym (flat_map-range_more f 0 n n next)
