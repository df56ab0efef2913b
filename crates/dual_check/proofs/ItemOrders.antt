-- Items that are taken in the order of ids.
use Rattle.dual_check.proofs.Common.{◌≡◌, ℕ, zero, suc, ◌+◌, ◌<◌, ◌≤◌, Bool, true, false, cond, List, [], ◌∷◌, ◌++◌, length, drop, get_or, eqb, refl, sym, ◌∙◌, ap, subst, arith, add-one, map, filter, Option, Some, None, is_some, AllByRecursion, IsDistinct, eqb-true, eqb-false, ne_eqb, eq-eqb, false≢true, IsDistinct-head, IsDistinct-tail, length_push, append_assoc, append-nil, drop_more, drop_all, length-drop, each-filter, each-weaker, filter-same, item_of, has_item, StandsInOrder, first_if_of}
use Rattle.model_laws.proofs.plain.Numbers.{eqb-flip}

-- two functions that agree at each element have the same images
pub map-agree : {A B : Type 0} (f g : A → B) (xs : List A) → AllByRecursion (λ x. f x ≡ g x) xs → map f xs ≡ map g xs
map-agree f g [] h = refl
map-agree f g (x ∷ xs) (first, rest) = ap (λ y. y ∷ map f xs) first ∙ ap (λ ys. g x ∷ ys) (map-agree f g xs rest)

-- images of images
pub map-map : {A B C : Type 0} (g : B → C) (f : A → B) (xs : List A) → map g (map f xs) ≡ map (λ x. g (f x)) xs
map-map g f [] = refl
map-map g f (x ∷ xs) = ap (λ ys. g (f x) ∷ ys) (map-map g f xs)

module _ {A : Type 0} (id_of : A → ℕ) where
  -- what each id gets where each takes the first item that is left, if it is of the id
  abbrev pub taken : List ℕ → List A → List (Option A)
  taken [] items = []
  taken (id ∷ ids) [] = None ∷ taken ids []
  taken (id ∷ ids) (item ∷ items) = cond (eqb (id_of item) id) (Some item ∷ taken ids items) (None ∷ taken ids (item ∷ items))

  -- what is left then
  abbrev pub left_over : List ℕ → List A → List A
  left_over [] items = items
  left_over (id ∷ ids) [] = []
  left_over (id ∷ ids) (item ∷ items) = cond (eqb (id_of item) id) (left_over ids items) (left_over ids (item ∷ items))

  -- the items without the first, if that is of the id
  abbrev after_first : List A → ℕ → List A
  after_first [] id = []
  after_first (item ∷ items) id = cond (eqb (id_of item) id) items (item ∷ items)

  -- the first id takes its item, and the others take from those after it
  taken-cons : (id : ℕ) (ids : List ℕ) (items : List A) → taken (id ∷ ids) items ≡ first_if_of id_of items id ∷ taken ids
      (after_first items id)
  taken-cons id ids [] = refl
  taken-cons id ids (item ∷ items) =
      elim (eqb (id_of item) id)
      as (λ b. cond b (Some item ∷ taken ids items) (None ∷ taken ids (item ∷ items)) ≡ cond b (Some item) None ∷ taken ids
      (cond b items (item ∷ items))) [
        | true ↦ refl
        | false ↦ refl
      ]

  -- of nothing, nothing is left
  left_over-nil : (ids : List ℕ) → left_over ids [] ≡ []
  left_over-nil [] = refl
  left_over-nil (id ∷ ids) = refl

  -- what the first id leaves, the others take from
  left_over-cons : (id : ℕ) (ids : List ℕ) (items : List A) → left_over (id ∷ ids) items ≡ left_over ids (after_first items id)
  left_over-cons id ids [] = sym (left_over-nil ids)
  left_over-cons id ids (item ∷ items) =
      elim (eqb (id_of item) id) as (λ b. cond b (left_over ids items) (left_over ids (item ∷ items)) ≡ left_over ids
      (cond b items (item ∷ items))) [
        | true ↦ refl
        | false ↦ refl
      ]

  -- where the first item that is left is of the id, the next place is one on
  after_first-taken : (items : List A) (n id : ℕ) → is_some (first_if_of id_of (drop n items) id) ≡ true
      → (after_first (drop n items) id ≡ drop (n + 1) items) × (n < length items)
  after_first-taken items n id h = let (is, low) = step items n h in (is ∙ ap (λ m. drop m items) (sym (add-one n)), low)
    where
      step : (xs : List A) (m : ℕ) → is_some (first_if_of id_of (drop m xs) id) ≡ true
          → (after_first (drop m xs) id ≡ drop (suc m) xs) × (m < length xs)
      step [] zero k = absurd (false≢true k)
      step [] (suc m) k = absurd (false≢true k)
      step (x ∷ xs) zero k =
          elim (eqb (id_of x) id) as (λ b. is_some (cond b (Some x) None) ≡ true
          → (cond b xs (x ∷ xs) ≡ xs) × (0 < suc (length xs))) [
            | true ↦ λ _. (refl, omega arith)
            | false ↦ λ none. absurd (false≢true none)
          ] k
      step (x ∷ xs) (suc m) k = let (is, low) = step xs m k in (is, omega (arith, low))

  -- where it is not, the next place stays
  after_first-left : (items : List A) (n id : ℕ) → is_some (first_if_of id_of (drop n items) id) ≡ false
      → after_first (drop n items) id ≡ drop n items
  after_first-left items n id h = step (drop n items) h
    where
      step : (xs : List A) → is_some (first_if_of id_of xs id) ≡ false → after_first xs id ≡ xs
      step [] k = refl
      step (x ∷ xs) k =
          elim (eqb (id_of x) id) as (λ b. is_some (cond b (Some x) None) ≡ false → cond b xs (x ∷ xs) ≡ x ∷ xs) [
            | true ↦ λ some. absurd (false≢true (sym some))
            | false ↦ λ _. refl
          ] k

  -- an id that none of the items is of
  none-of : (id : ℕ) (items : List A) → AllByRecursion (λ y. eqb id y ≡ false) (map id_of items)
      → (has_item id_of items id ≡ false) × (item_of id_of items id ≡ None)
  none-of id [] h = (refl, refl)
  none-of id (item ∷ items) (first, rest) =
      let (has, of) = none-of id items rest in
      let differs : eqb (id_of item) id ≡ false = eqb-flip id (id_of item) first in
      (rw differs has, rw differs of)

  -- items of some of these ids, in their order, are not of an id that is not among these
  none-in-order : (id : ℕ) (ids : List ℕ) (q : ℕ → Bool) (items : List A) → AllByRecursion (λ y. eqb id y ≡ false) ids
      → map id_of items ≡ filter q ids → AllByRecursion (λ y. eqb id y ≡ false) (map id_of items)
  none-in-order id ids q items absent is =
      subst (AllByRecursion (λ y. eqb id y ≡ false)) (sym is) (each-filter (λ y. eqb id y ≡ false) q ids absent)

  -- where nothing is left, the items stand in the ids' order, and each id took its item
  in-order-from-taken : (ids : List ℕ) (items : List A) → IsDistinct eqb ids → left_over ids items ≡ []
      → StandsInOrder id_of ids items × (taken ids items ≡ map (item_of id_of items) ids)
  in-order-from-taken [] items distinct left =
      subst (λ xs. StandsInOrder id_of [] xs × ([] ≡ map (item_of id_of xs) [])) (sym left) (refl, refl)
  in-order-from-taken (id ∷ ids) [] distinct left =
      let (ordered, each) = in-order-from-taken ids [] (IsDistinct-tail eqb id ids distinct) (left_over-nil ids) in
      (ordered, ap (λ xs. None ∷ xs) each)
  in-order-from-taken (id ∷ ids) (item ∷ items) distinct left =
      elim (eqb (id_of item) id)
      as (λ b. eqb (id_of item) id ≡ b → cond b (left_over ids items) (left_over ids (item ∷ items)) ≡ []
      → StandsInOrder id_of (id ∷ ids) (item ∷ items)
      × (cond b (Some item ∷ taken ids items) (None ∷ taken ids (item ∷ items)) ≡ map (item_of id_of (item ∷ items))
      (id ∷ ids))) [
        | true ↦ λ is none.
            let (ordered, each) = in-order-from-taken ids items (IsDistinct-tail eqb id ids distinct) none in
            let same : id_of item ≡ id = eqb-true (id_of item) id is in
            let others : AllByRecursion (λ y. eqb (id_of item) y ≡ false) ids
            = subst (λ n. AllByRecursion (λ y. eqb n y ≡ false) ids) (sym same) (IsDistinct-head eqb id ids distinct) in (
              ap (λ n. n ∷ map id_of items) same ∙ ap (λ xs. id ∷ xs) (ordered ∙ sym (kept others)) ∙ front is,
              ap (λ xs. Some item ∷ xs) (each ∙ sym (given others)) ∙ ap (λ o. o ∷ map (item_of id_of (item ∷ items)) ids)
                  (given_here is),
            )
        | false ↦ λ is none.
            let (ordered, each) = in-order-from-taken ids (item ∷ items) (IsDistinct-tail eqb id ids distinct) none in
            let (has, of) = none-of id (item ∷ items)
            (none-in-order id ids (has_item id_of (item ∷ items)) (item ∷ items) (IsDistinct-head eqb id ids distinct) ordered)
            in (
              ordered ∙ sym (ap (λ b. cond b (id ∷ filter (has_item id_of (item ∷ items)) ids)
                  (filter (has_item id_of (item ∷ items)) ids)) has),
              ap (λ xs. None ∷ xs) each ∙ ap (λ o. o ∷ map (item_of id_of (item ∷ items)) ids) (sym of),
            )
      ] refl left
    where
      kept : AllByRecursion (λ y. eqb (id_of item) y ≡ false) ids → filter (has_item id_of (item ∷ items)) ids ≡ filter
          (has_item id_of items) ids
      kept others = filter-same (has_item id_of (item ∷ items)) (has_item id_of items) ids
          (each-weaker (λ y. eqb (id_of item) y ≡ false) (λ y. has_item id_of (item ∷ items) y ≡ has_item id_of items y)
          (λ y h. rw h refl) ids others)

      given : AllByRecursion (λ y. eqb (id_of item) y ≡ false) ids → map (item_of id_of (item ∷ items)) ids ≡ map
          (item_of id_of items) ids
      given others = map-agree (item_of id_of (item ∷ items)) (item_of id_of items) ids
          (each-weaker (λ y. eqb (id_of item) y ≡ false) (λ y. item_of id_of (item ∷ items) y ≡ item_of id_of items y)
          (λ y h. rw h refl) ids others)

      front : eqb (id_of item) id ≡ true → id ∷ filter (has_item id_of (item ∷ items)) ids ≡ filter
          (has_item id_of (item ∷ items)) (id ∷ ids)
      front is = rw is refl

      given_here : eqb (id_of item) id ≡ true → Some item ≡ item_of id_of (item ∷ items) id
      given_here is = rw is refl

  -- where the items stand in the ids' order, nothing is left
  none-left : (ids : List ℕ) (items : List A) (q : ℕ → Bool) → IsDistinct eqb ids → map id_of items ≡ filter q ids
      → left_over ids items ≡ []
  none-left [] [] q distinct is = refl
  none-left [] (item ∷ items) q distinct is = absurd (cc is)
  none-left (id ∷ ids) [] q distinct is = refl
  none-left (id ∷ ids) (item ∷ items) q distinct is =
      elim (q id) as (λ b. id_of item ∷ map id_of items ≡ cond b (id ∷ filter q ids) (filter q ids)
      → left_over (id ∷ ids) (item ∷ items) ≡ []) [
        | true ↦ λ same.
            let here : eqb (id_of item) id ≡ true = eq-eqb (id_of item) id (cc same) in
            let rest : map id_of items ≡ filter q ids = cc same in
            rw here (none-left ids items q (IsDistinct-tail eqb id ids distinct) rest)
        | false ↦ λ same.
            let (first, _) = none-in-order id ids q (item ∷ items) (IsDistinct-head eqb id ids distinct) same in
            let other : eqb (id_of item) id ≡ false = eqb-flip id (id_of item) first in
            rw other (none-left ids (item ∷ items) q (IsDistinct-tail eqb id ids distinct) same)
      ] is

-- what the first i ids took of the items, where the next item is at n
pub record TakenSoFar {A : Type 0} (id_of : A → ℕ) (ids : List ℕ) (items : List A) (each : List (Option A)) (i n : ℕ) : Type 0
  where
    pub one_each : length each ≡ i
    pub so_far : each ++ taken id_of (drop i ids) (drop n items) ≡ taken id_of ids items
    pub rest : left_over id_of (drop i ids) (drop n items) ≡ left_over id_of ids items
    pub in_items : n ≤ length items

module _ {A : Type 0} (id_of : A → ℕ) (ids : List ℕ) (items : List A) where
  -- at first none took any
  pub taken-none : (each : List (Option A)) → each ≡ [] → TakenSoFar id_of ids items each 0 0
  taken-none each none = record {
    one_each = ap length none;
    so_far = ap (λ xs. xs ++ taken id_of ids items) none;
    rest = refl;
    in_items = omega arith;
  }

  -- one more id takes what it gets, and the next item is at m then
  taken-more : (each more : List (Option A)) (o : Option A) (i n m : ℕ) → i < length ids → m ≤ length items
      → o ≡ first_if_of id_of (drop n items) (get_or ids i 0) → more ≡ each ++ o ∷ []
      → after_first id_of (drop n items) (get_or ids i 0) ≡ drop m items
      → TakenSoFar id_of ids items each i n → TakenSoFar id_of ids items more (i + 1) m
  taken-more each more o i n m low in_items o_is more_is after so_far =
      let id = get_or ids i 0 in
      record {
        one_each = ap length more_is ∙ length_push each o ∙ ap (λ k. k + 1) so_far.one_each;
        so_far = ap (λ xs. xs ++ taken id_of (drop (i + 1) ids) (drop m items)) (more_is ∙ ap (λ gets. each ++ gets ∷ []) o_is)
            ∙ append_assoc each (first_if_of id_of (drop n items) id ∷ []) (taken id_of (drop (i + 1) ids) (drop m items))
            ∙ ap (λ xs. each ++ (first_if_of id_of (drop n items) id ∷ taken id_of (drop (i + 1) ids) xs)) (sym after)
            ∙ ap (λ xs. each ++ xs) (sym (taken-cons id_of id (drop (i + 1) ids) (drop n items)))
            ∙ ap (λ xs. each ++ taken id_of xs (drop n items)) (sym (drop_more ids i 0 low))
            ∙ so_far.so_far;
        rest = ap (left_over id_of (drop (i + 1) ids)) (sym after)
            ∙ sym (left_over-cons id_of id (drop (i + 1) ids) (drop n items))
            ∙ ap (λ xs. left_over id_of xs (drop n items)) (sym (drop_more ids i 0 low))
            ∙ so_far.rest;
        in_items = in_items;
      }

  -- one more id took the next item
  pub taken-one : (each more : List (Option A)) (o : Option A) (i n m : ℕ) → i < length ids
      → o ≡ first_if_of id_of (drop n items) (get_or ids i 0) → is_some o ≡ true → m ≡ n + 1 → more ≡ each ++ o ∷ []
      → TakenSoFar id_of ids items each i n → TakenSoFar id_of ids items more (i + 1) m
  taken-one each more o i n m low o_is some next more_is so_far =
      let (after, in_items) = after_first-taken id_of items n (get_or ids i 0) (ap is_some (sym o_is) ∙ some) in
      taken-more each more o i n m low (omega (arith, in_items, next)) o_is more_is (after ∙ ap (λ k. drop k items) (sym next))
      so_far

  -- one more id took none
  pub taken-no : (each more : List (Option A)) (o : Option A) (i n m : ℕ) → i < length ids
      → o ≡ first_if_of id_of (drop n items) (get_or ids i 0) → is_some o ≡ false → m ≡ n → more ≡ each ++ o ∷ []
      → TakenSoFar id_of ids items each i n → TakenSoFar id_of ids items more (i + 1) m
  taken-no each more o i n m low o_is none next more_is so_far =
      let after = after_first-left id_of items n (get_or ids i 0) (ap is_some (sym o_is) ∙ none) in
      taken-more each more o i n m low (omega (arith, so_far.in_items, next)) o_is more_is
      (after ∙ ap (λ k. drop k items) (sym next)) so_far

  -- where all items were taken they stand in the ids' order
  pub taken-all : (each : List (Option A)) (i n : ℕ) → IsDistinct eqb ids → length ids ≤ i → n ≡ length items
      → TakenSoFar id_of ids items each i n → StandsInOrder id_of ids items × (each ≡ map (item_of id_of items) ids)
  taken-all each i n distinct past all so_far =
      let none : left_over id_of ids items ≡ []
      = sym so_far.rest ∙ ap (λ xs. left_over id_of xs (drop n items)) (drop_all i ids past)
      ∙ drop_all n items (omega (arith, all)) in
      let every : each ≡ taken id_of ids items
      = sym (append-nil each) ∙ ap (λ xs. each ++ taken id_of xs (drop n items)) (sym (drop_all i ids past)) ∙ so_far.so_far in
      let (ordered, is) = in-order-from-taken id_of ids items distinct none in
      (ordered, every ∙ is)

  -- where items are left they do not
  pub taken-not_all : (each : List (Option A)) (i n : ℕ) → IsDistinct eqb ids → length ids ≤ i → (n ≡ length items → ⊥)
      → TakenSoFar id_of ids items each i n → StandsInOrder id_of ids items → ⊥
  taken-not_all each i n distinct past some so_far ordered =
      let none : drop n items ≡ []
      = ap (λ xs. left_over id_of xs (drop n items)) (sym (drop_all i ids past)) ∙ so_far.rest
      ∙ none-left id_of ids items (has_item id_of items) distinct ordered in
      some (omega (arith, so_far.in_items, ap length none, length-drop n items))
