-- Items of different ids.
use Rattle.dual_check.proofs.Common.{◌≡◌, ℕ, ◌<◌, inl, inr, Bool, true, false, cond, List, [], ◌∷◌, length, get_or, eqb, refl, sym, ◌∙◌, ap, arith, map, filter, find, Some, None, ◌==◌, ◌||◌, slice_get, position_or_len, list_any, IsDistinct, eqb-false, eq-eqb, ne_eqb, lt-ltb, cases_order, true≢false, length-map, get_or-map, find_at, position_or_len_is, IsDistinct-head, IsDistinct-tail, IsDistinct-cons, apart_from_distinct, slice_get-get_or, each-filter, distinct-filter, place_of}

-- different ids have different places
pub same-place : (ids : List ℕ) (i j : ℕ) → IsDistinct eqb ids → i < length ids → j < length ids
    → get_or ids i 0 ≡ get_or ids j 0 → i ≡ j
same-place ids i j distinct i_in j_in same = elim (cases_order i j) [
  | inl is ↦ is
  | inr (inl before) ↦ absurd (eqb-false (get_or ids i 0) (get_or ids j 0)
      (apart_from_distinct eqb ids i j 0 distinct before j_in) same)
  | inr (inr after) ↦ absurd (eqb-false (get_or ids j 0) (get_or ids i 0)
      (apart_from_distinct eqb ids j i 0 distinct after i_in) (sym same))
]

-- the first of different ids that is this one
first-place : (ids : List ℕ) (k id : ℕ) → IsDistinct eqb ids → k < length ids → get_or ids k 0 ≡ id
    → position_or_len (λ other. other == id) ids ≡ k
first-place ids k id distinct low is =
    position_or_len_is (λ other. other == id) ids k 0 (omega (arith, low))
    (λ j before. ne_eqb (get_or ids j 0) id
    (λ same. omega (arith, before, same-place ids j k distinct (omega (arith, before, low)) low (same ∙ sym is))))
    (λ _. eq-eqb (get_or ids k 0) id is)

-- the place of an id among different ids
pub place-of-id : (ids : List ℕ) (k id : ℕ) → IsDistinct eqb ids → k < length ids → get_or ids k 0 ≡ id → place_of ids id ≡ k
place-of-id ids k id distinct low is =
    rw (first-place ids k id distinct low is, lt-ltb k (length ids) low) refl

-- the first item of an id
pub find-id : {X : Type 0} (id_of : X → ℕ) (xs : List X) (k id : ℕ) (d : X) → IsDistinct eqb (map id_of xs) → k < length xs
    → id_of (get_or xs k d) ≡ id → find (λ x. id_of x == id) xs ≡ Some (get_or xs k d)
find-id id_of xs k id d distinct low is =
    find_at (λ x. id_of x == id) xs ∙ ap (slice_get xs) (first xs k low distinct is) ∙ slice_get-get_or xs k d low
  where
    first : (ys : List _) (n : ℕ) → n < length ys → IsDistinct eqb (map id_of ys) → id_of (get_or ys n d) ≡ id
        → position_or_len (λ x. id_of x == id) ys ≡ n
    first ys n n_in differ here =
        position_or_len_is (λ x. id_of x == id) ys n d (omega (arith, n_in))
        (λ j before. ne_eqb (id_of (get_or ys j d)) id (λ same. eqb-false (id_of (get_or ys j d)) (id_of (get_or ys n d))
        (apart ys j n differ before n_in) (same ∙ sym here)))
        (λ _. eq-eqb (id_of (get_or ys n d)) id here)
      where
        apart : (zs : List _) (i j : ℕ) → IsDistinct eqb (map id_of zs) → i < j → j < length zs
            → eqb (id_of (get_or zs i d)) (id_of (get_or zs j d)) ≡ false
        apart zs i j differ before j_in =
            let at = apart_from_distinct eqb (map id_of zs) i j 0 differ before (omega (arith, j_in, length-map zs id_of)) in
            rw (get_or-map id_of zs i d 0 (omega (arith, before, j_in)), get_or-map id_of zs j d 0 j_in) at at

-- an item's id at its place among the ids
pub id-at : {X : Type 0} (id_of : X → ℕ) (xs : List X) (k id : ℕ) → k < length xs → ((d : X) → id_of (get_or xs k d) ≡ id)
    → get_or (map id_of xs) k 0 ≡ id
id-at id_of [] k id low h = absurd (omega (arith, low))
id-at id_of (x ∷ xs) k id low h = get_or-map id_of (x ∷ xs) k x 0 low ∙ h x

-- where no item is of an id none is found
pub not-found : {X : Type 0} (p : X → Bool) (xs : List X) → list_any p xs ≡ false → find p xs ≡ None
not-found p [] h = refl
not-found p (x ∷ xs) h =
    elim (p x) as (λ b. (b || list_any p xs) ≡ false → cond b (Some x) (find p xs) ≡ None) [
      | true ↦ λ no. absurd (true≢false no)
      | false ↦ λ no. not-found p xs no
    ] h

-- an element of a list that is not empty
pub element : {X : Type 0} (xs : List X) (k : ℕ) → k < length xs → X
element [] k low = absurd (omega (arith, low))
element (x ∷ xs) k low = x
