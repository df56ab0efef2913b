-- Items that are gathered from the places that have one.
use Rattle.hungarian.proofs.Common.{◌≡◌, ℕ, zero, suc, ◌+◌, ◌<◌, ◌≤◌, Bool, true, false, cond, List, [], ◌∷◌, ◌++◌, length, get_or, eqb, refl, sym, ◌∙◌, ap, subst, arith, add-zero, map, filter, Option, Some, None, IfSome, filter_map, cons_option, range_with_len, AllByRecursion, IsDistinct, eq-eqb, ne_eqb, eqb-false, map-id, append-nil, get_or-map, filter_map-append, map-range_with_len_more, IsDistinct-head, IsDistinct-tail, none_from_not_some, item_of, has_item, StandsInOrder, map-agree}
use Rattle.model_laws.proofs.plain.Each.{each-filter, each-weaker}
use Rattle.model_laws.proofs.plain.Filters.{filter-same}

-- the places below one more
range-more : (n : ℕ) → range_with_len 0 (n + 1) ≡ range_with_len 0 n ++ n ∷ []
range-more n =
    sym (map-id (range_with_len 0 (n + 1))) ∙ map-range_with_len_more (λ k. k) 0 n n (omega arith)
    ∙ ap (λ ks. ks ++ n ∷ []) (map-id (range_with_len 0 n))

-- a place with an item
pub gathered-some : {A : Type 0} (f : ℕ → Option A) (items : List A) (n : ℕ) (item : A) → items
    ≡ filter_map f (range_with_len 0 n)
    → f n ≡ Some item → items ++ item ∷ [] ≡ filter_map f (range_with_len 0 (n + 1))
gathered-some f items n item is has =
    ap (λ xs. xs ++ item ∷ []) is
    ∙ ap (λ o. filter_map f (range_with_len 0 n) ++ cons_option o []) (sym has)
    ∙ sym (ap (filter_map f) (range-more n) ∙ filter_map-append f (range_with_len 0 n) (n ∷ []))

-- a place without an item
pub gathered-none : {A : Type 0} (f : ℕ → Option A) (items : List A) (n : ℕ) → items ≡ filter_map f (range_with_len 0 n)
    → f n ≡ None → items ≡ filter_map f (range_with_len 0 (n + 1))
gathered-none f items n is none =
    is ∙ sym (append-nil (filter_map f (range_with_len 0 n)))
    ∙ ap (λ o. filter_map f (range_with_len 0 n) ++ cons_option o []) (sym none)
    ∙ sym (ap (filter_map f) (range-more n) ∙ filter_map-append f (range_with_len 0 n) (n ∷ []))

-- what holds of each item at its place holds of the gathered items
pub each-gathered : {A : Type 0} (P : A → Type 0) (f : ℕ → Option A) (a n : ℕ)
    → ((k : ℕ) → a ≤ k → k < a + n → IfSome (f k) P) → AllByRecursion P (filter_map f (range_with_len a n))
each-gathered P f a zero h = tt
each-gathered P f a (suc n) h =
    elim (f a) as (λ o. IfSome o P → AllByRecursion P (cons_option o (filter_map f (range_with_len (a + 1) n)))) [
      | None ↦ λ _. each-gathered P f (a + 1) n (λ k low high. h k (omega (arith, low)) (omega (arith, high)))
      | Some item ↦ λ here. (here, each-gathered P f (a + 1) n (λ k low high. h k (omega (arith, low)) (omega (arith, high))))
    ] (h a (omega arith) (omega arith))

-- where each place has all items
pub gathered-all : {A : Type 0} (g : ℕ → A) (xs : List ℕ) → filter_map (λ k. Some (g k)) xs ≡ map g xs
gathered-all g [] = refl
gathered-all g (x ∷ xs) = ap (λ ys. g x ∷ ys) (gathered-all g xs)

-- items of other ids give an id nothing
nothing-of : {A : Type 0} (id_of : A → ℕ) (id : ℕ) (items : List A) → AllByRecursion (λ y. eqb id y ≡ false) (map id_of items)
    → (has_item id_of items id ≡ false) × (item_of id_of items id ≡ None)
nothing-of id_of id [] h = (refl, refl)
nothing-of id_of id (item ∷ items) (first, rest) =
    let (has, of) = nothing-of id_of id items rest in
    let differs : eqb (id_of item) id ≡ false = ne_eqb (id_of item) id (λ same. eqb-false id (id_of item) first (sym same)) in
    (rw differs has, rw differs of)

-- items that were gathered in the order of ids, and the items of the ids
abbrev AreGathered : {A : Type 0} → (A → ℕ) → List ℕ → List A → List (Option A) → Type 0
AreGathered id_of ids items each = StandsInOrder id_of ids items × (map (item_of id_of items) ids ≡ each)

-- one id more, without an item
gathered-without : {A : Type 0} (id_of : A → ℕ) (id : ℕ) (ids : List ℕ) (items : List A) (each : List (Option A))
    → AllByRecursion (λ y. eqb id y ≡ false) ids → AreGathered id_of ids items each
    → AreGathered id_of (id ∷ ids) items (None ∷ each)
gathered-without id_of id ids items each absent (ordered, given) =
    let apart = subst (AllByRecursion (λ y. eqb id y ≡ false)) (sym ordered)
    (each-filter (λ y. eqb id y ≡ false) (has_item id_of items) ids absent) in
    let (has, of) = nothing-of id_of id items apart in (
      ordered ∙ sym (ap (λ b. cond b (id ∷ filter (has_item id_of items) ids) (filter (has_item id_of items) ids)) has),
      ap (λ o. o ∷ map (item_of id_of items) ids) of ∙ ap (λ os. None ∷ os) given,
    )

-- one id more, with its item
gathered-with : {A : Type 0} (id_of : A → ℕ) (id : ℕ) (ids : List ℕ) (item : A) (items : List A) (each : List (Option A))
    → AllByRecursion (λ y. eqb id y ≡ false) ids → id_of item ≡ id → AreGathered id_of ids items each
    → AreGathered id_of (id ∷ ids) (item ∷ items) (Some item ∷ each)
gathered-with id_of id ids item items each absent is (ordered, given) =
    let test : eqb (id_of item) id ≡ true = eq-eqb (id_of item) id is in
    let others = subst (λ n. AllByRecursion (λ y. eqb n y ≡ false) ids) (sym is) absent in
    let kept = filter-same (has_item id_of (item ∷ items)) (has_item id_of items) ids
    (each-weaker (λ y. eqb (id_of item) y ≡ false) (λ y. has_item id_of (item ∷ items) y ≡ has_item id_of items y)
    (λ y h. rw h refl) ids others) in
    let same = map-agree (item_of id_of (item ∷ items)) (item_of id_of items) ids
    (each-weaker (λ y. eqb (id_of item) y ≡ false) (λ y. item_of id_of (item ∷ items) y ≡ item_of id_of items y)
    (λ y h. rw h refl) ids others) in
    let front : id ∷ filter (has_item id_of (item ∷ items)) ids ≡ filter (has_item id_of (item ∷ items)) (id ∷ ids) = rw test refl in
    let here : item_of id_of (item ∷ items) id ≡ Some item = rw test refl in (
      ap (λ n. n ∷ map id_of items) is ∙ ap (λ ys. id ∷ ys) (ordered ∙ sym kept) ∙ front,
      ap (λ o. o ∷ map (item_of id_of (item ∷ items)) ids) here ∙ ap (λ os. Some item ∷ os) (same ∙ given),
    )

-- items of different ids, gathered from a place on
gathered-from : {A : Type 0} (id_of : A → ℕ) (f : ℕ → Option A) (ids : List ℕ) (a : ℕ) → IsDistinct eqb ids
    → ((k : ℕ) → k < length ids → IfSome (f (a + k)) (λ item. id_of item ≡ get_or ids k 0))
    → AreGathered id_of ids (filter_map f (range_with_len a (length ids))) (map f (range_with_len a (length ids)))
gathered-from id_of f [] a distinct h = (refl, refl)
gathered-from {A} id_of f (id ∷ ids) a distinct h =
    let items : List A = filter_map f (range_with_len (a + 1) (length ids)) in
    let each : List (Option A) = map f (range_with_len (a + 1) (length ids)) in
    let absent = IsDistinct-head eqb id ids distinct in
    let rest = gathered-from id_of f ids (a + 1) (IsDistinct-tail eqb id ids distinct)
    (λ k low.
    let same : a + 1 + k ≡ a + suc k = omega arith in
    subst (λ j. IfSome (f j) (λ item. id_of item ≡ get_or ids k 0)) (sym same) (h (suc k) (omega (arith, low)))) in
    let here = subst (λ j. IfSome (f j) (λ item. id_of item ≡ id)) (add-zero a) (h 0 (omega arith)) in
    elim (f a)
    as (λ o. IfSome o (λ item. id_of item ≡ id) → AreGathered id_of (id ∷ ids) (cons_option o items) (o ∷ each)) [
      | Some item ↦ λ is. gathered-with id_of id ids item items each absent is rest
      | None ↦ λ _. gathered-without id_of id ids items each absent rest
    ] here

-- gathered items stand in the order of their ids, and each place's item is that of its id
pub gathered-in_order : {A : Type 0} (id_of : A → ℕ) (f : ℕ → Option A) (ids : List ℕ) → IsDistinct eqb ids
    → ((k : ℕ) → k < length ids → IfSome (f k) (λ item. id_of item ≡ get_or ids k 0))
    → StandsInOrder id_of ids (filter_map f (range_with_len 0 (length ids)))
    × (map (item_of id_of (filter_map f (range_with_len 0 (length ids)))) ids ≡ map f (range_with_len 0 (length ids)))
gathered-in_order id_of f ids distinct h =
    gathered-from id_of f ids 0 distinct
    (λ k low. subst (λ j. IfSome (f j) (λ item. id_of item ≡ get_or ids k 0)) (sym (on_zero k)) (h k low))
  where
    on_zero : (k : ℕ) → 0 + k ≡ k
    on_zero k = omega arith

-- the id of an element that was read is that of its place
pub id-read : {X : Type 0} (id_of : X → ℕ) (xs : List X) (k : ℕ) (x : X) → k < length xs → x ≡ get_or xs k x
    → id_of x ≡ get_or (map id_of xs) k 0
id-read id_of xs k x low is = ap id_of is ∙ sym (get_or-map id_of xs k x 0 low)
