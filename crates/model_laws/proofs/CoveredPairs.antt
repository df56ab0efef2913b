-- Weak duality: prices that certify a seating make it least.
use Rattle.model_laws.proofs.Common.{◌≡◌, ℕ, ◌+◌, ◌-◌, ◌*◌, ◌≤◌, Bool, not, List, length, refl, sym, ◌∙◌, ap, subst, arith, map, filter, sum_by, AllByRecursion, length-map, length-filter_both, sum_by-filter_both}
use Rattle.model_laws.proofs.plain.Sums.{sum_by-le-each, sum_by-add, sum_by-map, sum_by-le-times}
use Rattle.model_laws.proofs.plain.Each.{each-filter}

-- the core of weak duality: of some rows each has a pair; prices of rows are at most the penalty, and at most a pair's cost
-- and its column's payment; the columns' payments are at most a total. Then the prices are at most the pairs' costs, the
-- penalty for each other row, and the total
pub prices-le-cost : {P : Type 0} (row : P → ℕ) (cost pay : P → ℕ) (price : ℕ → ℕ) (penalty total : ℕ)
    (paired : ℕ → Bool) (rows : List ℕ) (pairs : List P)
    → map row pairs ≡ filter paired rows
    → AllByRecursion (λ r. price r ≤ penalty) rows
    → AllByRecursion (λ pair. price (row pair) ≤ cost pair + pay pair) pairs
    → sum_by pay pairs ≤ total
    → sum_by price rows ≤ sum_by cost pairs + penalty * (length rows - length pairs) + total
prices-le-cost {P} row cost pay price penalty total paired rows pairs each_paired capped covered paid =
    let split = sum_by-filter_both paired (λ r. not (paired r)) (λ r. refl) price rows in
    let lengths = length-filter_both paired (λ r. not (paired r)) (λ r. refl) rows in
    let with_pair : sum_by price (filter paired rows) ≡ sum_by (λ pair. price (row pair)) pairs
    = ap (sum_by price) (sym each_paired) ∙ sum_by-map price row pairs in
    let many : length (filter paired rows) ≡ length pairs
    = ap length (sym each_paired) ∙ length-map pairs row in
    let below = sum_by-le-each (λ pair. price (row pair)) (λ pair. cost pair + pay pair) pairs covered in
    let both = sum_by-add cost pay pairs in
    let rest = sum_by-le-times price penalty (filter (λ r. not (paired r)) rows)
    (each-filter (λ r. price r ≤ penalty) (λ r. not (paired r)) rows capped) in
    let left : length (filter (λ r. not (paired r)) rows) ≡ length rows - length pairs = omega (arith, lengths, many) in
    let rest_left : sum_by price (filter (λ r. not (paired r)) rows) ≤ penalty * (length rows - length pairs)
    = subst (λ n. sum_by price (filter (λ r. not (paired r)) rows) ≤ penalty * n) left rest in
    omega (arith, split, with_pair, below, both, rest_left, paid)
