-- Values of two that are numbered.
use Rattle.board_core.proofs.Common.{◌≡◌, ℕ, ◌+◌, ◌≤◌, ◌⊎◌, inl, inr, Bool, true, false, cond, eqb, refl, sym, ap, subst, arith, eqb-true, Option, Some, None, IsOneOrTwo, Numbered, at_number, with_number, one_if_some, count_in}

-- one or two
pub one_or_two : (n : ℕ) → IsOneOrTwo n → (n ≡ 1) ⊎ (n ≡ 2)
one_or_two n (low, high) = grind arith

-- the values after one was set
pub at_number-with : {T : Type 0} → (n m : ℕ) (value : Option T) (pair : Numbered T) → IsOneOrTwo n
    → at_number (with_number n value pair) m ≡ cond (eqb n m) value (at_number pair m)
at_number-with n m value pair fits =
    elim (one_or_two n fits) [
      | inl is ↦ subst (λ k. at_number (with_number k value pair) m ≡ cond (eqb k m) value (at_number pair m)) (sym is) first
      | inr is ↦ subst (λ k. at_number (with_number k value pair) m ≡ cond (eqb k m) value (at_number pair m)) (sym is) second
    ]
  where
    turned : (k : ℕ) → eqb m k ≡ eqb k m
    turned k = grind arith

    first : cond (eqb m 1) value (cond (eqb m 2) pair.second None) ≡ cond (eqb 1 m) value (at_number pair m)
    first = subst (λ q. cond (eqb m 1) value (cond (eqb m 2) pair.second None) ≡ cond q value (at_number pair m)) (turned 1)
        (by_first (eqb m 1))
      where
        by_first : (p : Bool) → cond p value (cond (eqb m 2) pair.second None) ≡ cond p value (cond p pair.first (cond (eqb m 2) pair.second None))
        by_first true = refl
        by_first false = refl

    second : cond (eqb m 1) pair.first (cond (eqb m 2) value None) ≡ cond (eqb 2 m) value (at_number pair m)
    second = subst (λ q. cond (eqb m 1) pair.first (cond (eqb m 2) value None) ≡ cond q value (at_number pair m)) (turned 2)
        (by_second (eqb m 2) refl)
      where
        by_second : (q : Bool) → eqb m 2 ≡ q
            → cond (eqb m 1) pair.first (cond q value None) ≡ cond q value (cond (eqb m 1) pair.first (cond q pair.second None))
        by_second true is = ap (λ k. cond (eqb k 1) pair.first value) (eqb-true m 2 is)
        by_second false is = refl

-- at most two have a value
pub count-le : {T : Type 0} → (pair : Numbered T) → count_in pair ≤ 2
count-le pair = omega (arith, one pair.first, one pair.second)
  where
    one : {X : Type 0} → (o : Option X) → one_if_some o ≤ 1
    one None = omega arith
    one (Some x) = omega arith

-- how many have a value after one was set
pub count-with : {T : Type 0} → (n : ℕ) (value : Option T) (pair : Numbered T) → IsOneOrTwo n
    → count_in (with_number n value pair) + one_if_some (at_number pair n) ≡ count_in pair + one_if_some value
count-with n value pair fits =
    elim (one_or_two n fits) [
      | inl is ↦ subst (λ k. count_in (with_number k value pair) + one_if_some (at_number pair k) ≡ count_in pair + one_if_some value) (sym is) (omega arith)
      | inr is ↦ subst (λ k. count_in (with_number k value pair) + one_if_some (at_number pair k) ≡ count_in pair + one_if_some value) (sym is) (omega arith)
    ]
