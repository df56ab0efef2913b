-- which nodes a changed list has, and that they stay distinct
use Rattle.link_lists.proofs.Common.{◌≡◌, ◌≢◌, ℕ, zero, suc, false, eqb, List, [], ◌∷◌, ◌++◌, refl, sym, ap, ◌∙◌, subst, arith, inl, inr, ◌⊎◌, nat_eq, Contains, AllByRecursion, eqb-false, eq-eqb, ne_eqb, cases_eq, Contains-append_cases, Contains-append_right, without, with_behind}
use Rattle.std.specs.List.{IsDistinct}

pub Contains-here : (x : ℕ) (xs : List ℕ) → Contains (x ∷ xs) x
Contains-here x xs = (0, omega arith, refl)

pub Contains-there : (y : ℕ) (xs : List ℕ) (x : ℕ) → Contains xs x → Contains (y ∷ xs) x
Contains-there y xs x h = Contains-append_right (y ∷ []) xs x h

pub Contains-nil : (x : ℕ) → Contains [] x → ⊥
Contains-nil x (k, l, e) = omega arith

pub Contains-cons_cases : (y : ℕ) (xs : List ℕ) (x : ℕ) → Contains (y ∷ xs) x → (y ≡ x) ⊎ Contains xs x
Contains-cons_cases y xs x (zero, l, e) = inl e
Contains-cons_cases y xs x (suc k, l, e) = inr (k, omega arith, e)

pub Contains-one : (y x : ℕ) → Contains (y ∷ []) x → y ≡ x
Contains-one y x h = elim (Contains-cons_cases y [] x h) [ inl e ↦ e | inr n ↦ absurd (Contains-nil x n) ]

-- a fact of each element, from the elements
pub ByRecursion-from : (P : ℕ → Type 0) (xs : List ℕ) → ((x : ℕ) → Contains xs x → P x) → AllByRecursion P xs
ByRecursion-from P [] h = tt
ByRecursion-from P (x ∷ xs) h = (h x (Contains-here x xs), ByRecursion-from P xs (λ y c. h y (Contains-there x xs y c)))

pub ByRecursion-at : (P : ℕ → Type 0) (xs : List ℕ) → AllByRecursion P xs → (x : ℕ) → Contains xs x → P x
ByRecursion-at P [] h x c = absurd (Contains-nil x c)
ByRecursion-at P (y ∷ xs) h x c = elim (Contains-cons_cases y xs x c) [ inl e ↦ subst P e h.0 | inr i ↦ ByRecursion-at P xs h.1 x i ]

-- ---- distinct lists

pub IsDistinct-nil : IsDistinct nat_eq []
unfolding IsDistinct
IsDistinct-nil = tt

pub IsDistinct-first : (x : ℕ) (xs : List ℕ) → IsDistinct nat_eq (x ∷ xs) → Contains xs x → ⊥
unfolding IsDistinct
IsDistinct-first x xs h c =
    let e : eqb x x ≡ false = ByRecursion-at (λ y. eqb x y ≡ false) xs h.0 x c in
    eqb-false x x e refl

pub IsDistinct-rest : (x : ℕ) (xs : List ℕ) → IsDistinct nat_eq (x ∷ xs) → IsDistinct nat_eq xs
unfolding IsDistinct
IsDistinct-rest x xs h = h.1

pub IsDistinct-more : (x : ℕ) (xs : List ℕ) → (Contains xs x → ⊥) → IsDistinct nat_eq xs → IsDistinct nat_eq (x ∷ xs)
unfolding IsDistinct
IsDistinct-more x xs out h =
    (ByRecursion-from (λ y. eqb x y ≡ false) xs (λ y c. ne_eqb x y (λ e. out (subst (Contains xs) (sym e) c))), h)

pub IsDistinct-push : (xs : List ℕ) (x : ℕ) → (Contains xs x → ⊥) → IsDistinct nat_eq xs → IsDistinct nat_eq (xs ++ x ∷ [])
IsDistinct-push [] x out h = IsDistinct-more x [] (Contains-nil x) IsDistinct-nil
IsDistinct-push (y ∷ xs) x out h =
    IsDistinct-more y (xs ++ x ∷ [])
    (λ c. elim (Contains-append_cases xs (x ∷ []) y c) [
      | inl i ↦ IsDistinct-first y xs h i
      | inr i ↦ out (subst (λ z. Contains (y ∷ xs) z) (sym (Contains-one x y i)) (Contains-here y xs))
    ])
    (IsDistinct-push xs x (λ c. out (Contains-there y xs x c)) (IsDistinct-rest y xs h))

-- ---- a list without a node

pub without-same : (x y : ℕ) (xs : List ℕ) → y ≡ x → without x (y ∷ xs) ≡ without x xs
without-same x y xs e = rw (eq-eqb y x e) refl

pub without-other : (x y : ℕ) (xs : List ℕ) → y ≢ x → without x (y ∷ xs) ≡ y ∷ without x xs
without-other x y xs n = rw (ne_eqb y x n) refl

pub without-absent : (x : ℕ) (xs : List ℕ) → (Contains xs x → ⊥) → without x xs ≡ xs
without-absent x [] out = refl
without-absent x (y ∷ xs) out =
    without-other x y xs (λ e. out (subst (Contains (y ∷ xs)) e (Contains-here y xs)))
    ∙ ap (λ ys. y ∷ ys) (without-absent x xs (λ c. out (Contains-there y xs x c)))

-- what is left was there, and is not the node
pub Contains-without : (x : ℕ) (xs : List ℕ) (y : ℕ) → Contains (without x xs) y → Contains xs y × (y ≢ x)
Contains-without x [] y c = absurd (Contains-nil y c)
Contains-without x (z ∷ xs) y c =
    elim (cases_eq z x) [
      | inl e ↦ let h = Contains-without x xs y (subst (λ l. Contains l y) (without-same x z xs e) c) in
          (Contains-there z xs y h.0, h.1)
      | inr n ↦ elim (Contains-cons_cases z (without x xs) y (subst (λ l. Contains l y) (without-other x z xs n) c)) [
        | inl e ↦ (subst (Contains (z ∷ xs)) e (Contains-here z xs), λ q. n (e ∙ q))
        | inr i ↦ let h = Contains-without x xs y i in (Contains-there z xs y h.0, h.1)
      ]
    ]

-- each other node is left
pub Contains-left : (x : ℕ) (xs : List ℕ) (y : ℕ) → Contains xs y → y ≢ x → Contains (without x xs) y
Contains-left x [] y c n = absurd (Contains-nil y c)
Contains-left x (z ∷ xs) y c n =
    elim (cases_eq z x) [
      | inl e ↦ subst (λ l. Contains l y) (sym (without-same x z xs e)) (elim (Contains-cons_cases z xs y c) [
        | inl q ↦ absurd (n (sym q ∙ e))
        | inr i ↦ Contains-left x xs y i n
      ])
      | inr m ↦ subst (λ l. Contains l y) (sym (without-other x z xs m)) (elim (Contains-cons_cases z xs y c) [
        | inl q ↦ subst (Contains (z ∷ without x xs)) q (Contains-here z (without x xs))
        | inr i ↦ Contains-there z (without x xs) y (Contains-left x xs y i n)
      ])
    ]

pub IsDistinct-without : (x : ℕ) (xs : List ℕ) → IsDistinct nat_eq xs → IsDistinct nat_eq (without x xs)
IsDistinct-without x [] h = h
IsDistinct-without x (y ∷ xs) h =
    elim (cases_eq y x) [
      | inl e ↦ subst (IsDistinct nat_eq) (sym (without-same x y xs e)) (IsDistinct-without x xs (IsDistinct-rest y xs h))
      | inr n ↦ subst (IsDistinct nat_eq) (sym (without-other x y xs n))
          (IsDistinct-more y (without x xs) (λ c. IsDistinct-first y xs h (Contains-without x xs y c).0) (IsDistinct-without x xs (IsDistinct-rest y xs h)))
    ]

-- the first node taken out of a list of distinct nodes leaves the rest
pub without-first : (x : ℕ) (xs : List ℕ) → IsDistinct nat_eq (x ∷ xs) → without x (x ∷ xs) ≡ xs
without-first x xs h = without-same x x xs refl ∙ without-absent x xs (IsDistinct-first x xs h)

-- ---- a list with a node behind another

pub with_behind-here : (a x y : ℕ) (xs : List ℕ) → y ≡ a → with_behind a x (y ∷ xs) ≡ y ∷ x ∷ xs
with_behind-here a x y xs e = rw (eq-eqb y a e) refl

pub with_behind-other : (a x y : ℕ) (xs : List ℕ) → y ≢ a → with_behind a x (y ∷ xs) ≡ y ∷ with_behind a x xs
with_behind-other a x y xs n = rw (ne_eqb y a n) refl

-- each node was there, or is the new one where the list has the place
pub Contains-with_behind : (a x : ℕ) (xs : List ℕ) (y : ℕ) → Contains (with_behind a x xs) y → Contains xs y ⊎ ((x ≡ y) × Contains xs a)
Contains-with_behind a x [] y c = absurd (Contains-nil y c)
Contains-with_behind a x (z ∷ xs) y c =
    elim (cases_eq z a) [
      | inl e ↦ elim (Contains-cons_cases z (x ∷ xs) y (subst (λ l. Contains l y) (with_behind-here a x z xs e) c)) [
        | inl q ↦ inl (subst (Contains (z ∷ xs)) q (Contains-here z xs))
        | inr i ↦ elim (Contains-cons_cases x xs y i) [
          | inl q ↦ inr (q, subst (Contains (z ∷ xs)) e (Contains-here z xs))
          | inr j ↦ inl (Contains-there z xs y j)
        ]
      ]
      | inr n ↦ elim (Contains-cons_cases z (with_behind a x xs) y (subst (λ l. Contains l y) (with_behind-other a x z xs n) c)) [
        | inl q ↦ inl (subst (Contains (z ∷ xs)) q (Contains-here z xs))
        | inr i ↦ elim (Contains-with_behind a x xs y i) [
          | inl j ↦ inl (Contains-there z xs y j)
          | inr j ↦ inr (j.0, Contains-there z xs a j.1)
        ]
      ]
    ]

-- each node that was there still is
pub Contains-behind_kept : (a x : ℕ) (xs : List ℕ) (y : ℕ) → Contains xs y → Contains (with_behind a x xs) y
Contains-behind_kept a x [] y c = absurd (Contains-nil y c)
Contains-behind_kept a x (z ∷ xs) y c =
    elim (cases_eq z a) [
      | inl e ↦ subst (λ l. Contains l y) (sym (with_behind-here a x z xs e)) (elim (Contains-cons_cases z xs y c) [
        | inl q ↦ subst (Contains (z ∷ x ∷ xs)) q (Contains-here z (x ∷ xs))
        | inr i ↦ Contains-there z (x ∷ xs) y (Contains-there x xs y i)
      ])
      | inr n ↦ subst (λ l. Contains l y) (sym (with_behind-other a x z xs n)) (elim (Contains-cons_cases z xs y c) [
        | inl q ↦ subst (Contains (z ∷ with_behind a x xs)) q (Contains-here z (with_behind a x xs))
        | inr i ↦ Contains-there z (with_behind a x xs) y (Contains-behind_kept a x xs y i)
      ])
    ]

-- the new node is there
pub Contains-behind_new : (a x : ℕ) (xs : List ℕ) → Contains xs a → Contains (with_behind a x xs) x
Contains-behind_new a x [] c = absurd (Contains-nil a c)
Contains-behind_new a x (z ∷ xs) c =
    elim (cases_eq z a) [
      | inl e ↦ subst (λ l. Contains l x) (sym (with_behind-here a x z xs e)) (Contains-there z (x ∷ xs) x (Contains-here x xs))
      | inr n ↦ subst (λ l. Contains l x) (sym (with_behind-other a x z xs n)) (elim (Contains-cons_cases z xs a c) [
        | inl q ↦ absurd (n q)
        | inr i ↦ Contains-there z (with_behind a x xs) x (Contains-behind_new a x xs i)
      ])
    ]

pub with_behind-absent : (a x : ℕ) (xs : List ℕ) → (Contains xs a → ⊥) → with_behind a x xs ≡ xs
with_behind-absent a x [] out = refl
with_behind-absent a x (y ∷ xs) out =
    with_behind-other a x y xs (λ e. out (subst (Contains (y ∷ xs)) e (Contains-here y xs)))
    ∙ ap (λ ys. y ∷ ys) (with_behind-absent a x xs (λ c. out (Contains-there y xs a c)))

pub IsDistinct-with_behind : (a x : ℕ) (xs : List ℕ) → (Contains xs x → ⊥) → IsDistinct nat_eq xs → IsDistinct nat_eq (with_behind a x xs)
IsDistinct-with_behind a x [] out h = h
IsDistinct-with_behind a x (y ∷ xs) out h =
    let apart : y ≢ x = λ e. out (subst (Contains (y ∷ xs)) e (Contains-here y xs)) in
    let rest_out : Contains xs x → ⊥ = λ c. out (Contains-there y xs x c) in
    elim (cases_eq y a) [
      | inl e ↦ subst (IsDistinct nat_eq) (sym (with_behind-here a x y xs e))
          (IsDistinct-more y (x ∷ xs)
          (λ c. elim (Contains-cons_cases x xs y c) [ inl q ↦ apart (sym q) | inr i ↦ IsDistinct-first y xs h i ])
          (IsDistinct-more x xs rest_out (IsDistinct-rest y xs h)))
      | inr n ↦ subst (IsDistinct nat_eq) (sym (with_behind-other a x y xs n))
          (IsDistinct-more y (with_behind a x xs)
          (λ c. elim (Contains-with_behind a x xs y c) [ inl i ↦ IsDistinct-first y xs h i | inr i ↦ apart (sym i.0) ])
          (IsDistinct-with_behind a x xs rest_out (IsDistinct-rest y xs h)))
    ]
