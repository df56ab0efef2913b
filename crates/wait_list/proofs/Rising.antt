-- rising lists, and what is put into them
use Rattle.wait_list.proofs.Common.{◌≡◌, ◌≢◌, ℕ, zero, suc, ◌+◌, ◌<◌, ◌≤◌, Bool, true, false, cond, List, [], ◌∷◌, ◌++◌, length, get_or, filter, nat_eq, refl, sym, ap, ◌∙◌, subst, arith, inl, inr, append_assoc, length-append, Contains, slice_get, nat_lt, AllByRecursion, IsDistinct, IsStrictlyIncreasing, cases_eq, lt-ltb, le-ltb, append-nil, filter-append, All-from_recursion, Family, list_at, IsHeld, with_behind, Contains-here, Contains-there, Contains-nil, Contains-cons_cases, ByRecursion-from, ByRecursion-at, IsDistinct-first, IsDistinct-rest, with_behind-here, with_behind-other, held-list, IsRising, places_below, places_above, Rises, IsOneList, waiting_of}

-- ---- facts of each element

pub each-weaker : (P Q : ℕ → Type 0) (xs : List ℕ) → ((x : ℕ) → P x → Q x) → AllByRecursion P xs → AllByRecursion Q xs
each-weaker P Q [] f h = tt
each-weaker P Q (x ∷ xs) f h = (f x h.0, each-weaker P Q xs f h.1)

pub each-append : (P : ℕ → Type 0) (xs ys : List ℕ) → AllByRecursion P xs → AllByRecursion P ys → AllByRecursion P (xs ++ ys)
each-append P [] ys h k = k
each-append P (x ∷ xs) ys h k = (h.0, each-append P xs ys h.1 k)

pub each-left : (P : ℕ → Type 0) (xs ys : List ℕ) → AllByRecursion P (xs ++ ys) → AllByRecursion P xs
each-left P [] ys h = tt
each-left P (x ∷ xs) ys h = (h.0, each-left P xs ys h.1)

pub each-right : (P : ℕ → Type 0) (xs ys : List ℕ) → AllByRecursion P (xs ++ ys) → AllByRecursion P ys
each-right P [] ys h = h
each-right P (x ∷ xs) ys h = each-right P xs ys h.1

pub filter-all : (p : ℕ → Bool) (xs : List ℕ) → AllByRecursion (λ x. p x ≡ true) xs → filter p xs ≡ xs
filter-all p [] h = refl
filter-all p (x ∷ xs) h = rw h.0 (ap (λ ys. x ∷ ys) (filter-all p xs h.1))

pub filter-none : (p : ℕ → Bool) (xs : List ℕ) → AllByRecursion (λ x. p x ≡ false) xs → filter p xs ≡ []
filter-none p [] h = refl
filter-none p (x ∷ xs) h = rw h.0 (filter-none p xs h.1)

-- ---- rising lists

pub rises-right : (xs ys : List ℕ) → Rises (xs ++ ys) → Rises ys
rises-right [] ys h = h
rises-right (x ∷ xs) ys h = rises-right xs ys h.1

-- a place goes between those below and those above
pub rises-insert : (front back : List ℕ) (place : ℕ) → Rises (front ++ back) → AllByRecursion (λ x. x < place) front → AllByRecursion (λ x. place < x) back → Rises (front ++ place ∷ back)
rises-insert [] back place h below above = (above, h)
rises-insert (x ∷ front) back place h below above = (
  each-append (λ y. x < y) front (place ∷ back) (each-left (λ y. x < y) front back h.0) (below.0, each-right (λ y. x < y) front back h.0),
  rises-insert front back place h.1 below.1 above,
)

each-filter : (P : ℕ → Type 0) (p : ℕ → Bool) (xs : List ℕ) → AllByRecursion P xs → AllByRecursion P (filter p xs)
each-filter P p [] h = tt
each-filter P p (x ∷ xs) h =
    elim (p x) as (λ b. AllByRecursion P (cond b (x ∷ filter p xs) (filter p xs))) [
      | true ↦ (h.0, each-filter P p xs h.1)
      | false ↦ each-filter P p xs h.1
    ]

pub rises-filter : (p : ℕ → Bool) (xs : List ℕ) → Rises xs → Rises (filter p xs)
rises-filter p [] h = tt
rises-filter p (x ∷ xs) h =
    elim (p x) as (λ b. Rises (cond b (x ∷ filter p xs) (filter p xs))) [
      | true ↦ (each-filter (λ y. x < y) p xs h.0, rises-filter p xs h.1)
      | false ↦ rises-filter p xs h.1
    ]

pub increasing-from_rises : (xs : List ℕ) → Rises xs → IsStrictlyIncreasing xs
increasing-from_rises [] h k low = absurd (omega arith)
increasing-from_rises (x ∷ []) h k low = absurd (omega arith)
increasing-from_rises (x ∷ y ∷ xs) h zero low = h.0.0
increasing-from_rises (x ∷ y ∷ xs) h (suc k) low =
    let low_rest : k + 1 < length (y ∷ xs) = omega arith in
    let rest : get_or (y ∷ xs) k 0 < get_or (y ∷ xs) (k + 1) 0 = increasing-from_rises (y ∷ xs) h.1 k low_rest in
    let one : suc k + 1 ≡ suc (k + 1) = omega arith in
    rw one rest

-- ---- the split at a place

pub below-split : (front back : List ℕ) (place : ℕ) → AllByRecursion (λ x. x < place) front → AllByRecursion (λ x. place < x) back → places_below place (front ++ back) ≡ front
below-split front back place below above =
    filter-append (λ x. nat_lt x place) front back
    ∙ ap (λ xs. xs ++ filter (λ x. nat_lt x place) back) (filter-all (λ x. nat_lt x place) front (each-weaker (λ x. x < place) (λ x. nat_lt x place ≡ true) front (λ x h. lt-ltb x place h) below))
    ∙ ap (λ xs. front ++ xs) (filter-none (λ x. nat_lt x place) back (each-weaker (λ x. place < x) (λ x. nat_lt x place ≡ false) back (λ x h. le-ltb x place (omega arith)) above))
    ∙ append-nil front

pub above-split : (front back : List ℕ) (place : ℕ) → AllByRecursion (λ x. x ≤ place) front → AllByRecursion (λ x. place < x) back → places_above place (front ++ back) ≡ back
above-split front back place below above =
    filter-append (λ x. nat_lt place x) front back
    ∙ ap (λ xs. xs ++ filter (λ x. nat_lt place x) back) (filter-none (λ x. nat_lt place x) front (each-weaker (λ x. x ≤ place) (λ x. nat_lt place x ≡ false) front (λ x h. le-ltb place x h) below))
    ∙ filter-all (λ x. nat_lt place x) back (each-weaker (λ x. place < x) (λ x. nat_lt place x ≡ true) back (λ x h. lt-ltb place x h) above)

-- a place that is not there is below those that are not below it
pub strictly-above : (place : ℕ) (xs : List ℕ) → (Contains xs place → ⊥) → AllByRecursion (λ x. place ≤ x) xs → AllByRecursion (λ x. place < x) xs
strictly-above place [] out h = tt
strictly-above place (x ∷ xs) out h =
    let differs : x ≢ place = λ e. out (subst (Contains (x ∷ xs)) e (Contains-here x xs)) in
    let le = h.0 in
    (omega arith, strictly-above place xs (λ c. out (Contains-there x xs place c)) h.1)

-- behind the last place below, the place stands where it belongs
pub with_behind-split : (others back : List ℕ) (last place : ℕ) → IsDistinct nat_eq (others ++ last ∷ back) → with_behind last place (others ++ last ∷ back) ≡ others ++ last ∷ place ∷ back
with_behind-split [] back last place distinct = with_behind-here last place last back refl
with_behind-split (x ∷ others) back last place distinct =
    let differs : x ≢ last = λ e. IsDistinct-first x (others ++ last ∷ back) distinct (subst (Contains (others ++ last ∷ back)) (sym e) (Contains-middle others last back)) in
    with_behind-other last place x (others ++ last ∷ back) differs
    ∙ ap (λ xs. x ∷ xs) (with_behind-split others back last place (IsDistinct-rest x (others ++ last ∷ back) distinct))
  where
    Contains-middle : (xs : List ℕ) (y : ℕ) (ys : List ℕ) → Contains (xs ++ y ∷ ys) y
    Contains-middle [] y ys = Contains-here y ys
    Contains-middle (x ∷ xs) y ys = Contains-there x (xs ++ y ∷ ys) y (Contains-middle xs y ys)

-- ---- places by their numbers

pub slice_get-behind : (front back : List ℕ) → slice_get (front ++ back) (length front) ≡ slice_get back 0
slice_get-behind [] back = refl
slice_get-behind (x ∷ front) back = slice_get-behind front back

pub slice_get-next : (front back : List ℕ) (x : ℕ) → slice_get (front ++ x ∷ back) (length front + 1) ≡ slice_get back 0
slice_get-next front back x =
    let more : length front + 1 ≡ length (front ++ x ∷ []) = omega (arith, length-append front (x ∷ [])) in
    let whole : front ++ x ∷ back ≡ (front ++ x ∷ []) ++ back = sym (append_assoc front (x ∷ []) back) in
    ap (slice_get (front ++ x ∷ back)) more
    ∙ ap (λ xs. slice_get xs (length (front ++ x ∷ []))) whole
    ∙ slice_get-behind (front ++ x ∷ []) back

-- a place that is there splits the list
pub record HasSplit (places : List ℕ) (place : ℕ) : Type 0 where
  pub front : List ℕ
  pub back : List ℕ
  pub whole : places ≡ front ++ place ∷ back
  pub below : AllByRecursion (λ other. other < place) front
  pub above : AllByRecursion (λ other. place < other) back

pub split-at : (places : List ℕ) (place : ℕ) → Rises places → Contains places place → HasSplit places place
split-at [] place h c = absurd (Contains-nil place c)
split-at (x ∷ places) place h c =
    elim (cases_eq x place) [
      | inl e ↦ record { front = []; back = places; whole = ap (λ y. y ∷ places) e; below = tt; above = each-weaker (λ y. x < y) (λ y. place < y) places (λ y lt. omega arith) h.0 }
      | inr n ↦
          let inside : Contains places place = elim (Contains-cons_cases x places place c) [ inl e ↦ absurd (n e) | inr i ↦ i ] in
          let rest = split-at places place h.1 inside in
          record {
            front = x ∷ rest.front;
            back = rest.back;
            whole = ap (λ xs. x ∷ xs) rest.whole;
            below = (ByRecursion-at (λ y. x < y) places h.0 place inside, rest.below);
            above = rest.above;
          }
    ]

-- ---- the one list

pub held-one : (family : Family) → length family.lists ≡ 1 → (x : ℕ) → IsHeld family x → Contains (list_at family 0) x
held-one family one x (list, c) =
    let low = held-list family list x c in
    let first : list ≡ 0 = omega arith in
    subst (λ l. Contains (list_at family l) x) first c

pub rising-from_one : (family : Family) → IsOneList family → IsRising (waiting_of family)
rising-from_one family ok = record {
  rising = increasing-from_rises (list_at family 0) ok.rises;
  in_range = All-from_recursion (λ x. x < family.nodes) (list_at family 0) (ByRecursion-from (λ x. x < family.nodes) (list_at family 0) (ok.family_ok.in_range 0));
}
