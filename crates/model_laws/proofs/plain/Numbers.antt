-- Numbers, and tests of them.
use Rattle.model_laws.proofs.Common.{◌≡◌, ℕ, suc, ◌+◌, ◌-◌, ◌<◌, ◌≤◌, ◌⊎◌, false, eqb, sym, arith, ◌∙◌, eqb-false, ne_eqb}

pub eqb-comm : (a b : ℕ) → eqb a b ≡ eqb b a
eqb-comm a b = grind arith

pub eqb-flip : (a b : ℕ) → eqb a b ≡ false → eqb b a ≡ false
eqb-flip a b h = ne_eqb b a (λ same. eqb-false a b h (sym same))

pub eqb-other : (n id other : ℕ) → n ≡ id → eqb other id ≡ false → eqb n other ≡ false
eqb-other n id other same differs = ne_eqb n other (λ is. eqb-false other id differs (sym is ∙ same))

pub eqb-less : (a b : ℕ) → a < b → eqb a b ≡ false
eqb-less a b h = ne_eqb a b (λ same. omega (arith, h, same))

pub less_or_same : (a b : ℕ) → a ≤ b → (a < b) ⊎ (a ≡ b)
less_or_same a b h = grind (arith, h)

pub same_or_less : (a b : ℕ) → a ≤ b → (a ≡ b) ⊎ (a < b)
same_or_less a b h = grind (arith, h)

pub le_or_lt : (a b : ℕ) → (a ≤ b) ⊎ (b < a)
le_or_lt a b = grind arith

pub less_if_differs : (a b : ℕ) → a ≤ b → eqb a b ≡ false → a < b
less_if_differs a b h differs = grind (arith, h, eqb-false a b differs)

pub one_of_two : (n : ℕ) → 1 ≤ n → n ≤ 2 → (n ≡ 1) ⊎ (n ≡ 2)
one_of_two n low high = grind (arith, low, high)

pub suc-less_one : (n : ℕ) → suc (suc n) - 1 ≡ suc (suc n - 1)
suc-less_one n = omega arith

pub swap-last : (a b c : ℕ) → a + b + c ≡ a + c + b
swap-last a b c = omega arith
