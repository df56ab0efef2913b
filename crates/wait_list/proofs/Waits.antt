-- whether a place waits, by the lowest place that is not below it
use Rattle.wait_list.proofs.Common.{◌≡◌, ◌≢◌, ℕ, zero, suc, ◌-◌, ◌<◌, ◌≤◌, Bool, true, List, [], ◌∷◌, get_or, filter, sym, ap, ◌∙◌, subst, arith, inl, inr, Option, Some, Contains, slice_get, nat_lt, IsStrictlyIncreasing, ltb-true, lt-ltb, true≢false, cases_Bool, cond-true, cond-false, Contains-here, Contains-there, Contains-nil, Contains-cons_cases, Contains-from_get, places_above}
use Rattle.std.proofs.lemmas.List.Kept.{AllPairs-from_increasing, IsStrictlyIncreasing-filter}

-- what a filter keeps passes the test, and was there
pub Contains-filter : (p : ℕ → Bool) (xs : List ℕ) (y : ℕ) → Contains (filter p xs) y → Contains xs y × (p y ≡ true)
Contains-filter p [] y c = absurd (Contains-nil y c)
Contains-filter p (x ∷ xs) y c =
    elim (cases_Bool (p x)) [
      | inl e ↦ elim (Contains-cons_cases x (filter p xs) y (subst (λ ys. Contains ys y) (cond-true (p x) (x ∷ filter p xs) (filter p xs) e) c)) [
        | inl q ↦ (subst (Contains (x ∷ xs)) q (Contains-here x xs), ap p (sym q) ∙ e)
        | inr i ↦ let h = Contains-filter p xs y i in (Contains-there x xs y h.0, h.1)
      ]
      | inr e ↦ let h = Contains-filter p xs y (subst (λ ys. Contains ys y) (cond-false (p x) (x ∷ filter p xs) (filter p xs) e) c) in (Contains-there x xs y h.0, h.1)
    ]

pub Contains-filtered : (p : ℕ → Bool) (xs : List ℕ) (y : ℕ) → Contains xs y → p y ≡ true → Contains (filter p xs) y
Contains-filtered p [] y c t = absurd (Contains-nil y c)
Contains-filtered p (x ∷ xs) y c t =
    elim (cases_Bool (p x)) [
      | inl e ↦ subst (λ ys. Contains ys y) (sym (cond-true (p x) (x ∷ filter p xs) (filter p xs) e))
          (elim (Contains-cons_cases x xs y c) [
            | inl q ↦ subst (Contains (x ∷ filter p xs)) q (Contains-here x (filter p xs))
            | inr i ↦ Contains-there x (filter p xs) y (Contains-filtered p xs y i t)
          ])
      | inr e ↦ subst (λ ys. Contains ys y) (sym (cond-false (p x) (x ∷ filter p xs) (filter p xs) e))
          (elim (Contains-cons_cases x xs y c) [
            | inl q ↦ absurd (true≢false (sym t ∙ ap p (sym q) ∙ e))
            | inr i ↦ Contains-filtered p xs y i t
          ])
    ]

-- a bound that a rising list has is its first number
pub first-of_rising : (xs : List ℕ) (low : ℕ) → IsStrictlyIncreasing xs → ((x : ℕ) → Contains xs x → low ≤ x) → Contains xs low → slice_get xs 0 ≡ Some low
first-of_rising [] low rising bound c = absurd (Contains-nil low c)
first-of_rising (x ∷ xs) low rising bound (zero, within, at) = ap Some at
first-of_rising (x ∷ xs) low rising bound (suc k, within, at) =
    let below : get_or (x ∷ xs) 0 low < get_or (x ∷ xs) (suc k) low = AllPairs-from_increasing (x ∷ xs) rising 0 (suc k) low (omega arith) within in
    let above : low ≤ x = bound x (Contains-here x xs) in
    absurd (omega (arith, below, above, at))

pub waits-zero : (xs : List ℕ) → IsStrictlyIncreasing xs → Contains xs 0 → slice_get xs 0 ≡ Some 0
waits-zero xs rising c = first-of_rising xs 0 rising (λ x i. omega arith) c

pub waits-above : (xs : List ℕ) (place : ℕ) → 0 < place → IsStrictlyIncreasing xs → Contains xs place → slice_get (places_above (place - 1) xs) 0 ≡ Some place
waits-above xs place pos rising c =
    first-of_rising (places_above (place - 1) xs) place (IsStrictlyIncreasing-filter (λ x. nat_lt (place - 1) x) xs rising)
    (λ x i. let above : place - 1 < x = ltb-true (place - 1) x (Contains-filter (λ y. nat_lt (place - 1) y) xs x i).1 in omega arith)
    (Contains-filtered (λ x. nat_lt (place - 1) x) xs place c (lt-ltb (place - 1) place (omega arith)))

pub waiting-above : (xs : List ℕ) (place other : ℕ) → slice_get (places_above place xs) 0 ≡ Some other → Contains xs other
waiting-above xs place other h = (Contains-filter (λ y. nat_lt place y) xs other (Contains-from_get (places_above place xs) 0 other h)).0

-- the lowest place that is not below one tells whether that one waits
pub record Tells (places : List ℕ) (place : ℕ) (next : Option ℕ) : Type 0 where
  pub here : Contains places place → next ≡ Some place
  pub waits : (other : ℕ) → next ≡ Some other → Contains places other

pub tells-zero : (places : List ℕ) (place : ℕ) (next : Option ℕ) → place ≡ 0 → next ≡ slice_get places 0 → IsStrictlyIncreasing places → Tells places place next
tells-zero places place next none read rising = record {
  here = λ c. read ∙ waits-zero places rising (subst (Contains places) none c) ∙ ap Some (sym none);
  waits = λ other is. Contains-from_get places 0 other (sym read ∙ is);
}

pub tells-above : (places : List ℕ) (place : ℕ) (next : Option ℕ) → place ≢ 0 → next ≡ slice_get (places_above (place - 1) places) 0 → IsStrictlyIncreasing places → Tells places place next
tells-above places place next some read rising = record {
  here = λ c. read ∙ waits-above places place (omega arith) rising c;
  waits = λ other is. waiting-above places (place - 1) other (sym read ∙ is);
}
