-- A pairing by its parts.
use Rattle.dual_check.proofs.Common.{◌≡◌, ℕ, zero, suc, ◌+◌, ◌<◌, ◌≤◌, inl, inr, Bool, true, false, List, [], ◌∷◌, length, take, refl, sym, ◌∙◌, ap, subst, arith, Option, Some, None, IsSome, IfSome, MatchBool, sum_by, range_with_len, cases_order, cases_lt, get_or-take, get_or_past, length-take, sum-map, sum_by-map-range_with_len_more, GridCells, cell_at, column_of, IsPairing, StandsInCells, HasColumnsOnce}

-- what decides a fact decides one that holds where it holds
pub decided-like : {P Q : Type 0} (b : Bool) → (P → Q) → (Q → P) → MatchBool b P (P → ⊥) → MatchBool b Q (Q → ⊥)
decided-like true to back h = to h
decided-like false to back h = λ q. h (back q)

-- a row with a column is one of the rows
pub row-of-column : (pairing : List (Option ℕ)) (row column : ℕ) → column_of pairing row ≡ Some column → row < length pairing
row-of-column [] row column is = absurd (cc is)
row-of-column (given ∷ pairing) zero column is = omega arith
row-of-column (given ∷ pairing) (suc row) column is = omega (arith, row-of-column pairing row column is)

-- what holds of a column that is there
at-column : (P : ℕ → Type 0) (o : Option ℕ) (column : ℕ) → o ≡ Some column → IfSome o P → P column
at-column P None column is h = absurd (cc is)
at-column P (Some c) column is h = subst P (cc is) h

-- what holds of a column if there is one
if-column : (P : ℕ → Type 0) (o : Option ℕ) → ((column : ℕ) → o ≡ Some column → P column) → IfSome o P
if-column P None h = tt
if-column P (Some c) h = h c refl

-- the parts of a pairing make one
pub pairing-from-parts : (grid : GridCells) (pairing : List (Option ℕ)) → length pairing ≡ grid.rows
    → StandsInCells grid pairing → HasColumnsOnce pairing → IsPairing grid pairing
pairing-from-parts grid pairing one_each stands once = record {
  one_each = one_each;
  in_grid = λ row column is. (stood row column is).0;
  in_cells = λ row column is. (stood row column is).1;
  columns_once = λ row other column row_is other_is. elim (cases_order row other) [
    | inl same ↦ same
    | inr (inl before) ↦ absurd (later row other column before row_is other_is)
    | inr (inr after) ↦ absurd (later other row column after other_is row_is)
  ];
}
  where
    stood : (row column : ℕ) → column_of pairing row ≡ Some column → (column < grid.columns) × IsSome (cell_at grid row column)
    stood row column is = at-column (λ c. (c < grid.columns) × IsSome (cell_at grid row c)) (column_of pairing row) column is
        (stands row (row-of-column pairing row column is))

    later : (row other column : ℕ) → row < other → column_of pairing row ≡ Some column → column_of pairing other ≡ Some column → ⊥
    later row other column before row_is other_is =
        at-column (λ c. (r : ℕ) → column_of (take other pairing) r ≡ Some c → ⊥) (column_of pairing other) column other_is
        (once other (row-of-column pairing other column other_is)) row (get_or-take other pairing row None before ∙ row_is)

-- each row's column of a pairing stands in its cell
pub stands-from-pairing : (grid : GridCells) (pairing : List (Option ℕ)) → IsPairing grid pairing → StandsInCells grid pairing
stands-from-pairing grid pairing paired =
    λ row _. if-column (λ c. (c < grid.columns) × IsSome (cell_at grid row c)) (column_of pairing row)
    (λ column is. (paired.in_grid row column is, paired.in_cells row column is))

-- the columns of a pairing are given once
pub once-from-pairing : (grid : GridCells) (pairing : List (Option ℕ)) → IsPairing grid pairing → HasColumnsOnce pairing
once-from-pairing grid pairing paired =
    λ row _. if-column (λ c. (r : ℕ) → column_of (take row pairing) r ≡ Some c → ⊥) (column_of pairing row)
    (λ column is r r_is. elim (cases_lt r row) [
      | inl before ↦ absurd (omega (
        arith,
        paired.columns_once r row column
            (sym (get_or-take row pairing r None before) ∙ r_is) is,
      ))
      | inr past ↦ absurd (cc (sym (get_or_past (take row pairing) r None (beyond row r past)) ∙ r_is))
    ])
  where
    beyond : (row r : ℕ) → row ≤ r → length (take row pairing) ≤ r
    beyond row r past = omega (arith, length-take row pairing)

pub ruleset pairing_rules = (pairing-from-parts, stands-from-pairing, once-from-pairing)

-- the sum over the first rows and one more
pub sum_by-range-more : (f : ℕ → ℕ) (n : ℕ) → sum_by f (range_with_len 0 (n + 1)) ≡ sum_by f (range_with_len 0 n) + f n
sum_by-range-more f n =
    sym (sum-map f (range_with_len 0 (n + 1)))
    ∙ sum_by-map-range_with_len_more (λ x. x) f 0 n n (omega arith)
    ∙ ap (λ m. m + f n) (sum-map f (range_with_len 0 n))
