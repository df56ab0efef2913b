-- Prices that certify a grid's pairing make it least.
use Rattle.dual_check.proofs.Common.{◌≡◌, ℕ, zero, suc, ◌+◌, ◌-◌, ◌*◌, ◌<◌, ◌≤◌, Bool, true, false, cond, not, List, [], ◌∷◌, length, get_or, eqb, refl, sym, ◌∙◌, ap, subst, mul-suc, arith, map, sum, Option, Some, None, IsSome, IfSome, is_some, unwrap_or, sum_by, range_with_len, enumerate_from, AllByRecursion, map-id, fill_by_all, length-filter_both, sum_by-filter_both, sum_by-cons, sum-map, ne_eqb, eq-eqb, false≢true, amount_of, amount-cons, sum-amounts-le, sum_by-map, GridCells, cell_at, column_of, IsPairing, row_cost, pairing_cost, IsLeastPairing, price_at, CertifiesPairing}
use Rattle.std.specs.List.{filter, IsDistinct}
use Rattle.model_laws.proofs.CoveredPairs.{prices-le-cost}

-- numbered amounts sum to the amounts
sum-numbered : (k : ℕ) (xs : List ℕ) → sum_by (λ (item : ℕ × ℕ). item.1) (enumerate_from k xs) ≡ sum xs
sum-numbered k [] = refl
sum-numbered k (x ∷ xs) =
    sum_by-cons (λ (item : ℕ × ℕ). item.1) (k, x) (enumerate_from (k + 1) xs)
    ∙ ap (λ n. x + n) (sum-numbered (k + 1) xs) ∙ sym (sum_by-cons (λ n. n) x xs)

-- a numbered amount is that of its place
amount-numbered : (k : ℕ) (xs : List ℕ) (n q : ℕ) → q ≡ k + n → amount_of (enumerate_from k xs) q ≡ get_or xs n 0
amount-numbered k [] n q is = refl
amount-numbered k (x ∷ xs) zero q is = rw (amount-cons k x (enumerate_from (k + 1) xs) q, eq-eqb k q (omega (arith, is))) refl
amount-numbered k (x ∷ xs) (suc n) q is =
    rw (amount-cons k x (enumerate_from (k + 1) xs) q, ne_eqb k q (λ same. omega (arith, is, same)))
    (amount-numbered (k + 1) xs n q (omega (arith, is)))

-- amounts at different places sum to at most all amounts
pub sum-places-le : (xs places : List ℕ) → IsDistinct eqb places → sum_by (λ place. get_or xs place 0) places ≤ sum xs
sum-places-le xs places distinct =
    omega (arith, sum-amounts-le (enumerate_from 0 xs) places distinct, sum-numbered 0 xs, same places)
  where
    same : (ps : List ℕ) → sum_by (λ place. get_or xs place 0) ps ≡ sum_by (amount_of (enumerate_from 0 xs)) ps
    same [] = refl
    same (p ∷ ps) =
        let here : amount_of (enumerate_from 0 xs) p ≡ get_or xs p 0 = amount-numbered 0 xs p p (omega arith) in
        omega (
          arith,
          here,
          same ps,
          sum_by-cons (λ place. get_or xs place 0) p ps,
          sum_by-cons
              (amount_of (enumerate_from 0 xs)) p ps,
        )

-- what holds of the numbers of a range holds of each
pub each-range : (P : ℕ → Type 0) (a n : ℕ) → ((k : ℕ) → a ≤ k → k < a + n → P k) → AllByRecursion P (range_with_len a n)
each-range P a zero h = tt
each-range P a (suc n) h =
    (h a (omega arith) (omega arith), each-range P (a + 1) n (λ k low high. h k (omega (arith, low)) (omega (arith, high))))

-- what holds of each that passes holds of each that a filter keeps
pub each-kept : (P : ℕ → Type 0) (p : ℕ → Bool) (xs : List ℕ) → AllByRecursion (λ x. p x ≡ true → P x) xs
    → AllByRecursion P (filter p xs)
each-kept P p [] h = tt
each-kept P p (x ∷ xs) (first, rest) =
    elim (p x) as (λ b. p x ≡ b → AllByRecursion P (cond b (x ∷ filter p xs) (filter p xs))) [
      | true ↦ λ passes. (first passes, each-kept P p xs rest)
      | false ↦ λ _. each-kept P p xs rest
    ] refl

-- what holds of each image holds of the images
each-image : (P : ℕ → Type 0) (f : ℕ → ℕ) (xs : List ℕ) → AllByRecursion (λ x. P (f x)) xs → AllByRecursion P (map f xs)
each-image P f [] h = tt
each-image P f (x ∷ xs) (first, rest) = (first, each-image P f xs rest)

-- different numbers of a range that pass have different images
distinct-images : (p : ℕ → Bool) (f : ℕ → ℕ) → ((r s : ℕ) → p r ≡ true → p s ≡ true → f r ≡ f s → r ≡ s)
    → (a n : ℕ) → IsDistinct eqb (map f (filter p (range_with_len a n)))
unfolding IsDistinct
distinct-images p f once a zero = tt
distinct-images p f once a (suc n) =
    elim (p a) as (λ b. p a ≡ b → IsDistinct eqb
    (map f (cond b (a ∷ filter p (range_with_len (a + 1) n)) (filter p (range_with_len (a + 1) n))))) [
      | true ↦ λ passes. (apart passes, distinct-images p f once (a + 1) n)
      | false ↦ λ _. distinct-images p f once (a + 1) n
    ] refl
  where
    apart : p a ≡ true → AllByRecursion (λ y. eqb (f a) y ≡ false) (map f (filter p (range_with_len (a + 1) n)))
    apart passes = each-image (λ y. eqb (f a) y ≡ false) f (filter p (range_with_len (a + 1) n))
        (each-kept (λ r. eqb (f a) (f r) ≡ false) p (range_with_len (a + 1) n)
        (each-range (λ r. p r ≡ true → eqb (f a) (f r) ≡ false) (a + 1) n
        (λ r low high r_passes. ne_eqb (f a) (f r) (λ same. omega (arith, low, once a r passes r_passes same)))))

-- numbers sum to their sum by place
sum-by-place : (xs : List ℕ) → sum xs ≡ sum_by (price_at xs) (range_with_len 0 (length xs))
sum-by-place xs = ap sum (fill_by_all (price_at xs) xs (length xs) 0 refl (λ k low. refl))
    ∙ sum-map (price_at xs) (range_with_len 0 (length xs))

-- a sum of terms that are m
pub sum_by-times : (f : ℕ → ℕ) (m : ℕ) (xs : List ℕ) → AllByRecursion (λ x. f x ≡ m) xs → sum_by f xs ≡ m * length xs
sum_by-times f m [] h = omega arith
sum_by-times f m (x ∷ xs) (first, rest) = omega
    (arith, first, sum_by-times f m xs rest, sum_by-cons f x xs, mul-suc m (length xs))

-- whether a row has a column
abbrev has_column : List (Option ℕ) → ℕ → Bool
has_column pairing row = is_some (column_of pairing row)

-- the column of a row, 0 where it has none
abbrev the_column : List (Option ℕ) → ℕ → ℕ
the_column pairing row = unwrap_or (column_of pairing row) 0

-- what a row costs in a pairing
abbrev cost_in : GridCells → ℕ → List (Option ℕ) → ℕ → ℕ
cost_in grid penalty pairing row = row_cost grid penalty row (column_of pairing row)

-- a column that is there is the row's
is-column : (pairing : List (Option ℕ)) (row : ℕ) → has_column pairing row ≡ true
    → column_of pairing row ≡ Some (the_column pairing row)
is-column pairing row h =
    elim (column_of pairing row) as (λ o. is_some o ≡ true → o ≡ Some (unwrap_or o 0)) [
      | None ↦ λ none. absurd (false≢true none)
      | Some column ↦ λ _. refl
    ] h

-- a row without a column costs the penalty
cost-of-none : (grid : GridCells) (penalty : ℕ) (pairing : List (Option ℕ)) (row : ℕ) → not (has_column pairing row) ≡ true
    → cost_in grid penalty pairing row ≡ penalty
cost-of-none grid penalty pairing row h =
    elim (column_of pairing row) as (λ o. not (is_some o) ≡ true → row_cost grid penalty row o ≡ penalty) [
      | None ↦ λ _. refl
      | Some column ↦ λ none. absurd (false≢true none)
    ] h

-- a row's price is at most its cost in any pairing, and what its column pays
price-covered : (grid : GridCells) (penalty : ℕ) (pairing : List (Option ℕ)) (prices pays : List ℕ) (row : ℕ)
    → IsPairing grid pairing
    → ((column : ℕ) → column < grid.columns → IfSome (cell_at grid row column)
    (λ amount. price_at prices row ≤ amount + price_at pays column))
    → has_column pairing row ≡ true
    → price_at prices row ≤ cost_in grid penalty pairing row + price_at pays (the_column pairing row)
price-covered grid penalty pairing prices pays row paired covered has =
    let column = the_column pairing row in
    let is : column_of pairing row ≡ Some column = is-column pairing row has in
    let at_cell : price_at prices row ≤ row_cost grid penalty row (Some column) + price_at pays column
    = elim (cell_at grid row column)
    as (λ o. cell_at grid row column ≡ o → IsSome o → IfSome o (λ amount. price_at prices row ≤ amount + price_at pays column)
    → price_at prices row ≤ row_cost grid penalty row (Some column) + price_at pays column) [
      | None ↦ λ _ none. absurd (cc none)
      | Some amount ↦ λ amount_is _ below. rw amount_is below
    ] refl (paired.in_cells row column is) (covered column (paired.in_grid row column is)) in
    subst (λ o. price_at prices row ≤ row_cost grid penalty row o + price_at pays column) (sym is) at_cell

-- what a pairing's columns pay is at most what all columns pay
paid-once : (grid : GridCells) (pairing : List (Option ℕ)) (pays : List ℕ) → IsPairing grid pairing
    → sum_by (λ r. price_at pays (the_column pairing r)) (filter (has_column pairing) (range_with_len 0 grid.rows)) ≤ sum pays
paid-once grid pairing pays paired =
    let rows = filter (has_column pairing) (range_with_len 0 grid.rows) in
    let distinct = distinct-images (has_column pairing) (the_column pairing)
    (λ r s r_has s_has same. paired.columns_once r s (the_column pairing r) (is-column pairing r r_has)
    (is-column pairing s s_has ∙ ap (λ c. Some c) (sym same))) 0 grid.rows in
    omega (
      arith,
      sum-places-le pays (map (the_column pairing) rows) distinct,
      sum_by-map (price_at pays) (the_column pairing)
          rows,
    )

-- a pairing's cost: that of the rows with a column, and the penalty for each other
cost-split : (grid : GridCells) (penalty : ℕ) (pairing : List (Option ℕ))
    → sum_by (cost_in grid penalty pairing) (filter (has_column pairing) (range_with_len 0 grid.rows))
    + penalty * (length (range_with_len 0 grid.rows) - length (filter (has_column pairing) (range_with_len 0 grid.rows)))
    ≡ pairing_cost grid penalty pairing
cost-split grid penalty pairing =
    let rows = range_with_len 0 grid.rows in
    let with_column = filter (has_column pairing) rows in
    let without = filter (λ r. not (has_column pairing r)) rows in
    let cost = cost_in grid penalty pairing in
    let both = sum_by-filter_both (has_column pairing) (λ r. not (has_column pairing r)) (λ _. refl) cost rows in
    let lengths = length-filter_both (has_column pairing) (λ r. not (has_column pairing r)) (λ _. refl) rows in
    let rest = sum_by-times cost penalty without (each-kept (λ r. cost r ≡ penalty) (λ r. not (has_column pairing r)) rows
    (each-range (λ r. not (has_column pairing r) ≡ true → cost r ≡ penalty) 0 grid.rows
    (λ r _ _ none. cost-of-none grid penalty pairing r none))) in
    let left : length without ≡ length rows - length with_column = omega (arith, lengths) in
    let rest_left : sum_by cost without ≡ penalty * (length rows - length with_column)
    = subst (λ n. sum_by cost without ≡ penalty * n) left rest in
    omega (arith, both, rest_left)

-- prices that certify a pairing are at most any pairing's cost and the payments
prices-le-any : (grid : GridCells) (penalty : ℕ) (pairing other : List (Option ℕ)) (prices pays : List ℕ)
    → CertifiesPairing grid penalty pairing prices pays → IsPairing grid other
    → sum_by (price_at prices) (range_with_len 0 grid.rows) ≤ pairing_cost grid penalty other + sum pays
prices-le-any grid penalty pairing other prices pays certified paired =
    let rows = range_with_len 0 grid.rows in
    let with_column = filter (has_column other) rows in
    let cost = cost_in grid penalty other in
    let paid = λ (r : ℕ). price_at pays (the_column other r) in
    let dual = prices-le-cost (λ (r : ℕ). r) cost paid (price_at prices) penalty (sum pays) (has_column other) rows with_column
    (map-id with_column)
    (each-range (λ r. price_at prices r ≤ penalty) 0 grid.rows
    (λ r _ low. certified.capped r 0 (omega (arith, low, certified.prices_each))))
    (each-kept (λ r. price_at prices r ≤ cost r + paid r) (has_column other) rows
    (each-range (λ r. has_column other r ≡ true → price_at prices r ≤ cost r + paid r) 0 grid.rows
    (λ r _ low has. price-covered grid penalty other prices pays r paired (λ c. certified.covered r c (omega (arith, low))) has)))
    (paid-once grid other pays paired) in
    omega (arith, dual, cost-split grid penalty other)

-- prices that certify a grid's pairing make it least
pub certified_pairing_is_least : (grid : GridCells) (penalty : ℕ) (pairing : List (Option ℕ)) (prices pays : List ℕ)
    → CertifiesPairing grid penalty pairing prices pays → IsLeastPairing grid penalty pairing
certified_pairing_is_least grid penalty pairing prices pays certified = record {
  paired = certified.paired;
  least = λ other paired.
      omega (arith, certified.balanced, priced, prices-le-any grid penalty pairing other prices pays certified paired);
}
  where
    priced : sum prices ≡ sum_by (price_at prices) (range_with_len 0 grid.rows)
    priced = subst (λ n. sum prices ≡ sum_by (price_at prices) (range_with_len 0 n)) certified.prices_each (sum-by-place prices)
