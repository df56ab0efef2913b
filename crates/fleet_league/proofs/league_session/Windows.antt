-- Lists gathered by place, where only the places of one window count.
use Rattle.fleet_league.proofs.Common.{◌≡◌, ℕ, zero, suc, ◌+◌, ◌<◌, ◌≤◌, ◌⊎◌, inl, inr, Bool, true, false, cond, List, [], ◌∷◌, ◌++◌, length, get_or, refl, sym, ◌∙◌, ap, subst, arith, ◌-◌, map, Option, Some, None, filter, filter_map, cons_option, range_with_len, filter_map-append}

-- places from one on, in two parts
pub range-parts : (a m n : ℕ) → range_with_len a (m + n) ≡ range_with_len a m ++ range_with_len (a + m) n
range-parts a zero n =
    let first : zero + n ≡ n = omega arith in
    let second : a ≡ a + zero = omega arith in
    ap (range_with_len a) first ∙ ap (λ k. range_with_len k n) second
range-parts a (suc m) n =
    let first : suc m + n ≡ suc (m + n) = omega arith in
    let second : (a + 1) + m ≡ a + suc m = omega arith in
    ap (range_with_len a) first ∙ ap (λ ks. a ∷ ks) (range-parts (a + 1) m n ∙ ap (λ k. range_with_len (a + 1) m ++ range_with_len k n) second)

-- what a list gives is what its places give
pub gathered-by_place : {X Y : Type 0} (f : X → Option Y) (g : ℕ → Option Y) (xs : List X) (a : ℕ)
    → ((k : ℕ) (d : X) → k < length xs → g (a + k) ≡ f (get_or xs k d)) → filter_map f xs ≡ filter_map g (range_with_len a (length xs))
gathered-by_place f g [] a same = refl
gathered-by_place f g (x ∷ xs) a same =
    let none : a + 0 ≡ a = omega arith in
    let first : g a ≡ f x = subst (λ n. g n ≡ f x) none (same 0 x (omega arith)) in
    let rest : filter_map f xs ≡ filter_map g (range_with_len (a + 1) (length xs)) = gathered-by_place f g xs (a + 1) (λ k d low.
    let next : a + suc k ≡ (a + 1) + k = omega arith in
    subst (λ n. g n ≡ f (get_or xs k d)) next (same (suc k) d (omega (arith, low)))) in
    λ i. cons_option (sym first i) (rest i)

-- places that give nothing
pub gathered-nothing : {Y : Type 0} (g : ℕ → Option Y) (a n : ℕ) → ((k : ℕ) → a ≤ k → k < a + n → g k ≡ None)
    → filter_map g (range_with_len a n) ≡ []
gathered-nothing g a zero none = refl
gathered-nothing g a (suc n) none =
    ap (λ o. cons_option o (filter_map g (range_with_len (a + 1) n))) (none a (omega arith) (omega arith))
    ∙ gathered-nothing g (a + 1) n (λ k low high. none k (omega (arith, low)) (omega (arith, high)))

-- places that give the same
pub gathered-same : {Y : Type 0} (g h : ℕ → Option Y) (a b n : ℕ) → ((k : ℕ) → k < n → g (a + k) ≡ h (b + k))
    → filter_map g (range_with_len a n) ≡ filter_map h (range_with_len b n)
gathered-same g h a b zero same = refl
gathered-same g h a b (suc n) same =
    let on_a : a + 0 ≡ a = omega arith in
    let on_b : b + 0 ≡ b = omega arith in
    let first : g a ≡ h b = ap g (sym on_a) ∙ same 0 (omega arith) ∙ ap h on_b in
    let rest = gathered-same g h (a + 1) (b + 1) n (λ k low.
    let next_a : (a + 1) + k ≡ a + suc k = omega arith in
    let next_b : b + suc k ≡ (b + 1) + k = omega arith in
    ap g next_a ∙ same (suc k) (omega (arith, low)) ∙ ap h next_b) in
    λ i. cons_option (first i) (rest i)

-- the places of a window alone
pub gathered-window : {Y : Type 0} (g : ℕ → Option Y) (a m n : ℕ) → a + m ≤ n
    → ((k : ℕ) → k < n → (k < a) ⊎ (a + m ≤ k) → g k ≡ None)
    → filter_map g (range_with_len 0 n) ≡ filter_map g (range_with_len a m)
gathered-window g a m n within none =
    let rest : ℕ = n - (a + m) in
    let all : n ≡ a + (m + rest) = omega (arith, within) in
    let start : 0 + a ≡ a = omega arith in
    ap (λ k. filter_map g (range_with_len 0 k)) all
    ∙ ap (filter_map g) (range-parts 0 a (m + rest))
    ∙ filter_map-append g (range_with_len 0 a) (range_with_len (0 + a) (m + rest))
    ∙ ap (λ ys. ys ++ filter_map g (range_with_len (0 + a) (m + rest)))
    (gathered-nothing g 0 a (λ k low high. none k (omega (arith, high, within)) (inl (omega (arith, high)))))
    ∙ ap (λ k. filter_map g (range_with_len k (m + rest))) start
    ∙ ap (filter_map g) (range-parts a m rest)
    ∙ filter_map-append g (range_with_len a m) (range_with_len (a + m) rest)
    ∙ ap (λ ys. filter_map g (range_with_len a m) ++ ys)
    (gathered-nothing g (a + m) rest (λ k low high. none k (omega (arith, high, within)) (inr low)))
    ∙ append-none (filter_map g (range_with_len a m))
  where
    append-none : {Y : Type 0} (ys : List Y) → ys ++ [] ≡ ys
    append-none [] = refl
    append-none (y ∷ ys) = ap (λ zs. y ∷ zs) (append-none ys)

-- a test as what it keeps
abbrev pub kept : (ℕ → Bool) → ℕ → Option ℕ
kept test k = cond (test k) (Some k) None

pub filter-gathered : (test : ℕ → Bool) (ks : List ℕ) → filter test ks ≡ filter_map (kept test) ks
filter-gathered test [] = refl
filter-gathered test (k ∷ ks) =
    elim (test k) as (λ b. cond b (k ∷ filter test ks) (filter test ks) ≡ cons_option (cond b (Some k) None) (filter_map (kept test) ks)) [
      | true ↦ ap (λ xs. k ∷ xs) (filter-gathered test ks)
      | false ↦ filter-gathered test ks
    ]

-- places that all are kept
kept-all : (test : ℕ → Bool) (a n : ℕ) → ((k : ℕ) → a ≤ k → k < a + n → test k ≡ true) → filter test (range_with_len a n) ≡ range_with_len a n
kept-all test a zero all = refl
kept-all test a (suc n) all =
    ap (λ b. cond b (a ∷ filter test (range_with_len (a + 1) n)) (filter test (range_with_len (a + 1) n))) (all a (omega arith) (omega arith))
    ∙ ap (λ ks. a ∷ ks) (kept-all test (a + 1) n (λ k low high. all k (omega (arith, low)) (omega (arith, high))))

-- a test that holds in one window keeps its places
pub filter-window : (test : ℕ → Bool) (a m n : ℕ) → a + m ≤ n → ((k : ℕ) → a ≤ k → k < a + m → test k ≡ true)
    → ((k : ℕ) → k < n → (k < a) ⊎ (a + m ≤ k) → test k ≡ false) → filter test (range_with_len 0 n) ≡ range_with_len a m
filter-window test a m n within inside outside =
    filter-gathered test (range_with_len 0 n)
    ∙ gathered-window (kept test) a m n within (λ k low out. ap (λ b. cond b (Some k) None) (outside k low out))
    ∙ sym (filter-gathered test (range_with_len a m))
    ∙ kept-all test a m inside

-- what places give that pass a test, each something, and else nothing
pub gathered-kept : {Y : Type 0} (g : ℕ → Option Y) (test : ℕ → Bool) (h : ℕ → Y) (a n : ℕ)
    → ((k : ℕ) → a ≤ k → k < a + n → g k ≡ cond (test k) (Some (h k)) None)
    → filter_map g (range_with_len a n) ≡ map h (filter test (range_with_len a n))
gathered-kept g test h a zero each = refl
gathered-kept g test h a (suc n) each =
    let rest = gathered-kept g test h (a + 1) n (λ k low high. each k (omega (arith, low)) (omega (arith, high))) in
    ap (λ o. cons_option o (filter_map g (range_with_len (a + 1) n))) (each a (omega arith) (omega arith))
    ∙ (elim (test a) as (λ b. cons_option (cond b (Some (h a)) None) (filter_map g (range_with_len (a + 1) n))
    ≡ map h (cond b (a ∷ filter test (range_with_len (a + 1) n)) (filter test (range_with_len (a + 1) n)))) [
      | true ↦ ap (λ ys. h a ∷ ys) rest
      | false ↦ rest
    ])
