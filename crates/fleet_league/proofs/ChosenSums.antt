-- Sums over rows and columns, some of which are chosen.
use Rattle.fleet_league.proofs.Common.{◌≡◌, ℕ, zero, suc, ◌+◌, ◌<◌, ◌≤◌, Bool, true, false, cond, not, List, [], ◌∷◌, length, get_or, eqb, refl, sym, ◌∙◌, ap, arith, map, sum, Option, Some, None, filter, sum_by, range_with_len, AllByRecursion, sum_by-filter_both, fill_by_all, sum_by-cons, sum-map, ne_eqb, All-from_recursion, each-kept, each-range, sum-places-le}
use Rattle.std.specs.List.{IsDistinct}

-- what a list of weights gives at a column, if there is one
abbrev pub weight_at : List ℕ → Option ℕ → ℕ
weight_at weights None = 0
weight_at weights (Some column) = get_or weights column 0

-- a column, if there is one, before others
abbrev with_first : Option ℕ → List ℕ → List ℕ
with_first None columns = columns
with_first (Some column) columns = column ∷ columns

-- the columns of some rows, in the order of the rows
abbrev columns_in : (ℕ → Option ℕ) → List ℕ → List ℕ
columns_in column_at [] = []
columns_in column_at (row ∷ rows) = with_first (column_at row) (columns_in column_at rows)

-- no row has the column of another
abbrev pub HasEachOnce : (ℕ → Option ℕ) → Type 0
HasEachOnce column_at = (row other column : ℕ) → column_at row ≡ Some column → column_at other ≡ Some column → row ≡ other

-- the weights of rows are those of their columns
weights-of-columns : (weights : List ℕ) (column_at : ℕ → Option ℕ) (rows : List ℕ)
    → sum_by (λ row. weight_at weights (column_at row)) rows ≡ sum_by (λ column. get_or weights column 0) (columns_in column_at rows)
weights-of-columns weights column_at [] = refl
weights-of-columns weights column_at (row ∷ rows) =
    let rest = weights-of-columns weights column_at rows in
    let columns = columns_in column_at rows in
    sum_by-cons (λ r. weight_at weights (column_at r)) row rows
    ∙ elim (column_at row) as (λ o. weight_at weights o + sum_by (λ r. weight_at weights (column_at r)) rows
    ≡ sum_by (λ column. get_or weights column 0) (with_first o columns)) [
      | None ↦ omega (arith, rest)
      | Some column ↦ omega (arith, rest, sum_by-cons (λ c. get_or weights c 0) column columns)
    ]

-- a column that no row has is none of the rows' columns
apart-from-columns : (column : ℕ) (column_at : ℕ → Option ℕ) (rows : List ℕ)
    → AllByRecursion (λ row. column_at row ≡ Some column → ⊥) rows
    → AllByRecursion (λ other. eqb column other ≡ false) (columns_in column_at rows)
apart-from-columns column column_at [] h = tt
apart-from-columns column column_at (row ∷ rows) (first, rest) =
    let others = apart-from-columns column column_at rows rest in
    elim (column_at row) as (λ o. (o ≡ Some column → ⊥)
    → AllByRecursion (λ other. eqb column other ≡ false) (with_first o (columns_in column_at rows))) [
      | None ↦ λ _. others
      | Some other ↦ λ differs. (ne_eqb column other (λ same. differs (ap (λ c. Some c) (sym same))), others)
    ] first

-- the columns of different rows differ
distinct-columns : (column_at : ℕ → Option ℕ) → HasEachOnce column_at → (a n : ℕ)
    → IsDistinct eqb (columns_in column_at (range_with_len a n))
unfolding IsDistinct
distinct-columns column_at once a zero = tt
distinct-columns column_at once a (suc n) =
    let rest = distinct-columns column_at once (a + 1) n in
    elim (column_at a) as (λ o. column_at a ≡ o → IsDistinct eqb (with_first o (columns_in column_at (range_with_len (a + 1) n)))) [
      | None ↦ λ _. rest
      | Some column ↦ λ is. (apart column is, rest)
    ] refl
  where
    apart : (column : ℕ) → column_at a ≡ Some column
        → AllByRecursion (λ other. eqb column other ≡ false) (columns_in column_at (range_with_len (a + 1) n))
    apart column is = apart-from-columns column column_at (range_with_len (a + 1) n)
        (each-range (λ row. column_at row ≡ Some column → ⊥) (a + 1) n
        (λ row low high row_is. absurd (omega (arith, low, once a row column is row_is))))

-- the weights of different columns are at most all weights
weights-once : (weights : List ℕ) (column_at : ℕ → Option ℕ) (n : ℕ) → HasEachOnce column_at
    → sum_by (λ row. weight_at weights (column_at row)) (range_with_len 0 n) ≤ sum weights
weights-once weights column_at n once = omega (
  arith,
  weights-of-columns weights column_at (range_with_len 0 n),
  sum-places-le weights (columns_in column_at (range_with_len 0 n)) (distinct-columns column_at once 0 n),
)

-- lesser terms have a lesser sum
sum-within : (f g : ℕ → ℕ) (xs : List ℕ) → AllByRecursion (λ x. f x ≤ g x) xs → sum_by f xs ≤ sum_by g xs
sum-within f g [] h = omega arith
sum-within f g (x ∷ xs) (first, rest) =
    omega (arith, first, sum-within f g xs rest, sum_by-cons f x xs, sum_by-cons g x xs)

-- equal terms have an equal sum
pub sum-same : (f g : ℕ → ℕ) (xs : List ℕ) → AllByRecursion (λ x. f x ≡ g x) xs → sum_by f xs ≡ sum_by g xs
sum-same f g [] h = refl
sum-same f g (x ∷ xs) (first, rest) =
    omega (arith, first, sum-same f g xs rest, sum_by-cons f x xs, sum_by-cons g x xs)

-- a sum of sums
sum-plus : (f g : ℕ → ℕ) (xs : List ℕ) → sum_by (λ x. f x + g x) xs ≡ sum_by f xs + sum_by g xs
sum-plus f g [] = refl
sum-plus f g (x ∷ xs) =
    omega (arith, sum-plus f g xs, sum_by-cons (λ y. f y + g y) x xs, sum_by-cons f x xs, sum_by-cons g x xs)

-- rows whose prices are covered by their costs and the weights of their columns cost at least their prices less all weights
pub covered-rows : (price cost : ℕ → ℕ) (column_at : ℕ → Option ℕ) (weights : List ℕ) (p : ℕ → Bool) (n : ℕ)
    → HasEachOnce column_at
    → ((row : ℕ) → row < n → p row ≡ true → price row ≤ cost row + weight_at weights (column_at row))
    → sum_by price (filter p (range_with_len 0 n)) ≤ sum_by cost (filter p (range_with_len 0 n)) + sum weights
covered-rows price cost column_at weights p n once covered =
    let rows = range_with_len 0 n in
    let weight = λ (row : ℕ). weight_at weights (column_at row) in
    let within = sum-within price (λ row. cost row + weight row) (filter p rows)
    (each-kept (λ row. price row ≤ cost row + weight row) p rows
    (each-range (λ row. p row ≡ true → price row ≤ cost row + weight row) 0 n (λ row _ low passes. covered row (omega (arith, low)) passes))) in
    omega (
      arith,
      within,
      sum-plus cost weight (filter p rows),
      sum_by-filter_both p (λ row. not (p row)) (λ _. refl) weight rows,
      weights-once weights column_at n once,
    )

-- the weights of columns that pass, and 0 for each other
abbrev pub weights_of : (ℕ → Bool) → (ℕ → ℕ) → ℕ → List ℕ
weights_of p f n = map (λ column. cond (p column) (f column) 0) (range_with_len 0 n)

-- these weights sum to those of the columns that pass
pub sum-weights : (p : ℕ → Bool) (f : ℕ → ℕ) (n : ℕ) → sum (weights_of p f n) ≡ sum_by f (filter p (range_with_len 0 n))
sum-weights p f n = sum-map (λ column. cond (p column) (f column) 0) (range_with_len 0 n) ∙ kept (range_with_len 0 n)
  where
    kept : (xs : List ℕ) → sum_by (λ column. cond (p column) (f column) 0) xs ≡ sum_by f (filter p xs)
    kept [] = refl
    kept (x ∷ xs) =
        sum_by-cons (λ column. cond (p column) (f column) 0) x xs
        ∙ elim (p x) as (λ b. cond b (f x) 0 + sum_by (λ column. cond (p column) (f column) 0) xs
        ≡ sum_by f (cond b (x ∷ filter p xs) (filter p xs))) [
          | true ↦ omega (arith, kept xs, sum_by-cons f x (filter p xs))
          | false ↦ omega (arith, kept xs)
        ]

-- a list is what it has at its places
pub by-place : (xs : List ℕ) → xs ≡ map (λ k. get_or xs k 0) (range_with_len 0 (length xs))
by-place xs = fill_by_all (λ k. get_or xs k 0) xs (length xs) 0 refl (λ k low. refl)

-- the numbers of a range that pass are different
pub distinct-kept : (p : ℕ → Bool) (a n : ℕ) → IsDistinct eqb (filter p (range_with_len a n))
unfolding IsDistinct
distinct-kept p a zero = tt
distinct-kept p a (suc n) =
    elim (p a) as (λ b. IsDistinct eqb (cond b (a ∷ filter p (range_with_len (a + 1) n)) (filter p (range_with_len (a + 1) n)))) [
      | true ↦ (apart, distinct-kept p (a + 1) n)
      | false ↦ distinct-kept p (a + 1) n
    ]
  where
    apart : AllByRecursion (λ other. eqb a other ≡ false) (filter p (range_with_len (a + 1) n))
    apart = each-kept (λ other. eqb a other ≡ false) p (range_with_len (a + 1) n)
        (each-range (λ other. p other ≡ true → eqb a other ≡ false) (a + 1) n
        (λ other low _ _. ne_eqb a other (λ same. omega (arith, low, same))))

-- a number of a range that passes is one of the range
pub kept-below : (p : ℕ → Bool) (n k : ℕ) → k < length (filter p (range_with_len 0 n)) → get_or (filter p (range_with_len 0 n)) k 0 < n
kept-below p n k low =
    All-from_recursion (λ x. x < n) (filter p (range_with_len 0 n))
    (each-kept (λ x. x < n) p (range_with_len 0 n)
    (each-range (λ x. p x ≡ true → x < n) 0 n (λ x _ high _. omega (arith, high)))) k 0 low
