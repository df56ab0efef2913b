-- What a round costs, by its prices and pays.
use Rattle.fleet_league.proofs.Common.{◌≡◌, ℕ, ◌*◌, ◌<◌, ◌≤◌, ◌^◌, List, [], ◌∷◌, length, get_or, refl, sym, ap, ◌∙◌, arith, sum, Option, sum_by, map-id, sum-map, sum_by-le, mul-le-mul, GridCells, CertifiesPairing}

sum-is : (xs : List ℕ) → sum xs ≡ sum_by (λ x. x) xs
sum-is xs = ap sum (sym (map-id xs)) ∙ sum-map (λ x. x) xs

-- prices are few and at most the penalty
pub prices-small : (grid : GridCells) (penalty : ℕ) (columns : List (Option ℕ)) (prices pays : List ℕ) → grid.rows ≤ 128
    → penalty ≤ 1000000000000 → CertifiesPairing grid penalty columns prices pays → sum prices < 2 ^ 64
prices-small grid penalty columns prices pays few small certified =
    let below : sum_by (λ x. x) prices ≤ length prices * penalty = sum_by-le (λ x. x) penalty prices certified.capped in
    let most : length prices * penalty ≤ 128 * 1000000000000 = mul-le-mul {n₁ = length prices} {m₁ = penalty} {n₂ = 128} {m₂ = 1000000000000} (omega (arith, certified.prices_each, few)) small in
    omega (arith, sum-is prices, below, most)

-- two quotes are those at both places
pub two-of : {A : Type 0} (xs : List A) (a b : A) → length xs ≡ 2 → xs ≡ get_or xs 0 a ∷ get_or xs 1 b ∷ []
two-of [] a b two = absurd (omega (arith, two))
two-of (x ∷ []) a b two = absurd (omega (arith, two))
two-of (x ∷ y ∷ []) a b two = refl
two-of (x ∷ y ∷ z ∷ xs) a b two = absurd (omega (arith, two))
