-- A certified pairing, kept to some of its columns.
use Rattle.fleet_league.proofs.Common.{◌≡◌, ℕ, ◌+◌, ◌<◌, ◌≤◌, Bool, true, false, cond, not, List, length, get_or, eqb, refl, sym, ◌∙◌, ap, subst, arith, map, sum, All, Option, Some, None, IsSome, IfSome, sum_by, range_with_len, IsDistinct, false≢true, get_or-map, length-map, sum_by-filter_both, get_or-map-range_with_len, sum-map, sum_by-map, each-range, same-place, row-of-column, GridCells, column_of, row_cost, pairing_cost, price_at, IsPairing, CertifiesPairing, is_chosen, chosen_columns, rows_into, IsPart, KeepsColumns, IsRestrictedTo}
use Rattle.dual_check.specs.Cells.{cell_at}
use Rattle.fleet_league.proofs.ChosenSums.{weight_at, weights_of, sum-weights, covered-rows, sum-same, by-place, distinct-kept, kept-below}

-- a row's price is at most its cell and what its column pays
at-cell : (grid : GridCells) (penalty row column price pay : ℕ) → IsSome (cell_at grid row column)
    → IfSome (cell_at grid row column) (λ amount. price ≤ amount + pay) → price ≤ row_cost grid penalty row (Some column) + pay
at-cell grid penalty row column price pay =
    elim (cell_at grid row column) as (λ o. cell_at grid row column ≡ o → IsSome o → IfSome o (λ amount. price ≤ amount + pay)
    → price ≤ row_cost grid penalty row (Some column) + pay) [
      | None ↦ λ _ none. absurd (cc none)
      | Some amount ↦ λ amount_is _ below. rw amount_is below
    ] refl

-- numbers sum to their sum by place
sum-of-places : (xs : List ℕ) (n : ℕ) → length xs ≡ n → sum xs ≡ sum_by (price_at xs) (range_with_len 0 n)
sum-of-places xs n is = subst (λ m. sum xs ≡ sum_by (price_at xs) (range_with_len 0 m)) is
    (ap sum (by-place xs) ∙ sum-map (price_at xs) (range_with_len 0 (length xs)))

-- the prices of the rows that are paired into the chosen columns are their amounts and what the chosen columns pay
restricted-balance : (grid : GridCells) (penalty : ℕ) (pairing : List (Option ℕ)) (prices pays : List ℕ) (chosen : List Bool)
    → CertifiesPairing grid penalty pairing prices pays → length chosen ≡ grid.columns
    → sum_by (price_at prices) (rows_into chosen pairing)
    ≡ sum_by (λ row. row_cost grid penalty row (column_of pairing row)) (rows_into chosen pairing)
    + sum_by (price_at pays) (chosen_columns chosen)
restricted-balance grid penalty pairing prices pays chosen certified chosen_each =
    let rows = range_with_len 0 (length pairing) in
    let columns = range_with_len 0 (length chosen) in
    let cost = λ (row : ℕ). row_cost grid penalty row (column_of pairing row) in
    let into = λ (row : ℕ). is_chosen chosen (column_of pairing row) in
    let elsewhere = λ (row : ℕ). not (into row) in
    let is_one = λ (column : ℕ). get_or chosen column false in
    let is_other = λ (column : ℕ). not (is_one column) in
    let ones = weights_of is_one (price_at pays) (length chosen) in
    let others = weights_of is_other (price_at pays) (length chosen) in
    let own = covered-rows (price_at prices) cost (column_of pairing) ones into (length pairing) certified.paired.columns_once
    (λ row low passes. paired-into row passes) in
    let rest = covered-rows (price_at prices) cost (column_of pairing) others elsewhere (length pairing) certified.paired.columns_once
    (λ row low passes. paired-elsewhere row (omega (arith, low, certified.paired.one_each)) passes) in
    let balanced : sum_by (price_at prices) rows ≡ sum_by cost rows + sum pays = all-balanced in
    omega (
      arith,
      own,
      rest,
      balanced,
      sum-weights is_one (price_at pays) (length chosen),
      sum-weights is_other (price_at pays) (length chosen),
      sum-of-places pays (length chosen) (certified.pays_each ∙ sym chosen_each),
      sum_by-filter_both is_one is_other (λ _. refl) (price_at pays) columns,
      sum_by-filter_both into elsewhere (λ _. refl) (price_at prices) rows,
      sum_by-filter_both into elsewhere (λ _. refl) cost rows,
    )
  where
    all-balanced : sum_by (price_at prices) (range_with_len 0 (length pairing))
        ≡ sum_by (λ row. row_cost grid penalty row (column_of pairing row)) (range_with_len 0 (length pairing)) + sum pays
    all-balanced = subst
        (λ n. sum_by (price_at prices) (range_with_len 0 n)
        ≡ sum_by (λ row. row_cost grid penalty row (column_of pairing row)) (range_with_len 0 n) + sum pays)
        (sym certified.paired.one_each)
        (sym (sum-of-places prices grid.rows certified.prices_each) ∙ certified.balanced)

    at-column : (row column : ℕ) → column_of pairing row ≡ Some column
        → price_at prices row ≤ row_cost grid penalty row (Some column) + price_at pays column
    at-column row column is =
        at-cell grid penalty row column (price_at prices row) (price_at pays column) (certified.paired.in_cells row column is)
        (certified.covered row column (omega (arith, row-of-column pairing row column is, certified.paired.one_each))
        (certified.paired.in_grid row column is))

    -- the weight of a column that passes is what it pays
    weight-is : (p : ℕ → Bool) (column : ℕ) → p column ≡ true → column < grid.columns
        → get_or (weights_of p (price_at pays) (length chosen)) column 0 ≡ price_at pays column
    weight-is p column passes low =
        get_or-map-range_with_len (λ c. cond (p c) (price_at pays c) 0) 0 (length chosen) column column 0
        (omega (arith, low, chosen_each)) (omega arith)
        ∙ ap (λ b. cond b (price_at pays column) 0) passes

    paired-into : (row : ℕ) → is_chosen chosen (column_of pairing row) ≡ true
        → price_at prices row ≤ row_cost grid penalty row (column_of pairing row)
        + weight_at (weights_of (λ column. get_or chosen column false) (price_at pays) (length chosen)) (column_of pairing row)
    paired-into row =
        elim (column_of pairing row) as (λ o. column_of pairing row ≡ o → is_chosen chosen o ≡ true
        → price_at prices row ≤ row_cost grid penalty row o
        + weight_at (weights_of (λ column. get_or chosen column false) (price_at pays) (length chosen)) o) [
          | None ↦ λ _ no. absurd (false≢true no)
          | Some column ↦ λ is yes. omega (
            arith,
            at-column row column is,
            weight-is (λ c. get_or chosen c false) column yes (certified.paired.in_grid row column is),
          )
        ] refl

    paired-elsewhere : (row : ℕ) → row < grid.rows → not (is_chosen chosen (column_of pairing row)) ≡ true
        → price_at prices row ≤ row_cost grid penalty row (column_of pairing row)
        + weight_at (weights_of (λ column. not (get_or chosen column false)) (price_at pays) (length chosen)) (column_of pairing row)
    paired-elsewhere row low =
        elim (column_of pairing row) as (λ o. column_of pairing row ≡ o → not (is_chosen chosen o) ≡ true
        → price_at prices row ≤ row_cost grid penalty row o
        + weight_at (weights_of (λ column. not (get_or chosen column false)) (price_at pays) (length chosen)) o) [
          | None ↦ λ _ _. omega (arith, certified.capped row 0 (omega (arith, low, certified.prices_each)))
          | Some column ↦ λ is yes. omega (
            arith,
            at-column row column is,
            weight-is (λ c. not (get_or chosen c false)) column yes (certified.paired.in_grid row column is),
          )
        ] refl

-- a row of the part costs what it costs in the whole
same-cost : (grid part : GridCells) (penalty own_penalty : ℕ) (row column own_row own_column : ℕ)
    → cell_at part own_row own_column ≡ cell_at grid row column
    → row_cost part own_penalty own_row (Some own_column) ≡ row_cost grid penalty row (Some column)
same-cost grid part penalty own_penalty row column own_row own_column same = rw same refl

-- where a row of the part has its column
record StandsAt (pairing : List (Option ℕ)) (rows columns : List ℕ) (row column : ℕ) : Type 0 where
  row_low : row < length rows
  column_low : column < length columns
  column_is : column_of pairing (get_or rows row 0) ≡ Some (get_or columns column 0)

-- a row that has a column in the part has it in the whole
stands-at : (pairing : List (Option ℕ)) (rows columns : List ℕ) (own : List (Option ℕ)) (row column : ℕ)
    → KeepsColumns pairing rows columns own → column_of own row ≡ Some column → StandsAt pairing rows columns row column
stands-at pairing rows columns own row column kept is =
    let low : row < length rows = omega (arith, row-of-column own row column is, kept.one_each) in
    let same = kept.same_column row low in
    let column_same : same.0 ≡ column = cc (same.2, is) in
    record {
      row_low = low;
      column_low = subst (λ c. c < length columns) column_same same.1;
      column_is = subst (λ c. column_of pairing (get_or rows row 0) ≡ Some (get_or columns c 0)) column_same same.3;
    }

-- a certified pairing, kept to some columns, is a pairing
restricted-pairing : (grid : GridCells) (pairing : List (Option ℕ)) (rows columns : List ℕ) (part : GridCells) (own : List (Option ℕ))
    → IsPairing grid pairing → IsPart grid rows columns part → KeepsColumns pairing rows columns own → IsDistinct eqb rows
    → IsPairing part own
restricted-pairing grid pairing rows columns part own paired of kept distinct = record {
  one_each = kept.one_each ∙ sym of.rows_each;
  in_grid = λ row column is. omega (arith, (at row column is).column_low, of.columns_each);
  in_cells = λ row column is. subst IsSome (sym (of.cells_same row column (at row column is).row_low (at row column is).column_low))
      (paired.in_cells (get_or rows row 0) (get_or columns column 0) (at row column is).column_is);
  columns_once = λ row other column row_is other_is. same-place rows row other distinct (at row column row_is).row_low
      (at other column other_is).row_low (paired.columns_once (get_or rows row 0) (get_or rows other 0) (get_or columns column 0)
      (at row column row_is).column_is (at other column other_is).column_is);
}
  where
    at : (row column : ℕ) → column_of own row ≡ Some column → StandsAt pairing rows columns row column
    at row column = stands-at pairing rows columns own row column kept

-- the part's pairing costs what its rows cost in the whole
pub restricted-cost : (grid part : GridCells) (penalty own_penalty : ℕ) (pairing own : List (Option ℕ)) (rows columns : List ℕ)
    → IsPart grid rows columns part → KeepsColumns pairing rows columns own
    → pairing_cost part own_penalty own ≡ sum_by (λ row. row_cost grid penalty row (column_of pairing row)) rows
restricted-cost grid part penalty own_penalty pairing own rows columns of kept =
    ap (λ n. sum_by (λ row. row_cost part own_penalty row (column_of own row)) (range_with_len 0 n)) of.rows_each
    ∙ sum-same (λ row. row_cost part own_penalty row (column_of own row))
    (λ k. row_cost grid penalty (get_or rows k 0) (column_of pairing (get_or rows k 0))) (range_with_len 0 (length rows))
    (each-range (λ k. row_cost part own_penalty k (column_of own k)
    ≡ row_cost grid penalty (get_or rows k 0) (column_of pairing (get_or rows k 0))) 0 (length rows)
    (λ k _ high. each k (omega (arith, high))))
    ∙ sym (sum_by-map cost (λ k. get_or rows k 0) (range_with_len 0 (length rows)))
    ∙ ap (sum_by cost) (sym (by-place rows))
  where
    cost : ℕ → ℕ
    cost row = row_cost grid penalty row (column_of pairing row)

    each : (k : ℕ) → k < length rows → row_cost part own_penalty k (column_of own k)
        ≡ row_cost grid penalty (get_or rows k 0) (column_of pairing (get_or rows k 0))
    each k low =
        let same = kept.same_column k low in
        ap (row_cost part own_penalty k) same.2
        ∙ same-cost grid part penalty own_penalty (get_or rows k 0) (get_or columns same.0 0) k same.0
        (of.cells_same k same.0 low same.1)
        ∙ ap (row_cost grid penalty (get_or rows k 0)) (sym same.3)

-- what stands at a place of amounts that are kept
at-place : (amounts places own_amounts : List ℕ) (k : ℕ) → own_amounts ≡ map (price_at amounts) places → k < length places
    → price_at own_amounts k ≡ price_at amounts (get_or places k 0)
at-place amounts places own_amounts k is low =
    ap (λ xs. get_or xs k 0) is ∙ get_or-map (price_at amounts) places k 0 0 low

-- a certified pairing, kept to the chosen columns, is certified
pub restricted-certifies : (grid : GridCells) (penalty : ℕ) (pairing : List (Option ℕ)) (prices pays : List ℕ) (chosen : List Bool)
    (part : GridCells) (own_penalty : ℕ) (own : List (Option ℕ)) (own_prices own_pays : List ℕ)
    → CertifiesPairing grid penalty pairing prices pays → length chosen ≡ grid.columns
    → IsPart grid (rows_into chosen pairing) (chosen_columns chosen) part → penalty ≤ own_penalty
    → IsRestrictedTo chosen pairing prices pays own own_prices own_pays
    → CertifiesPairing part own_penalty own own_prices own_pays
restricted-certifies grid penalty pairing prices pays chosen part own_penalty own own_prices own_pays certified chosen_each of capped kept =
    record {
      paired = restricted-pairing grid pairing rows columns part own certified.paired of kept.columns_kept
          (distinct-kept (λ row. is_chosen chosen (column_of pairing row)) 0 (length pairing));
      prices_each = ap (λ (xs : List ℕ). length xs) kept.prices_kept ∙ length-map rows (price_at prices) ∙ sym of.rows_each;
      pays_each = ap (λ (xs : List ℕ). length xs) kept.pays_kept ∙ length-map columns (price_at pays) ∙ sym of.columns_each;
      capped = subst (All (λ price. price ≤ own_penalty)) (sym kept.prices_kept) all_capped;
      covered = λ row column row_low column_low. covered row column (omega (arith, row_low, of.rows_each))
          (omega (arith, column_low, of.columns_each));
      balanced = ap sum kept.prices_kept ∙ sum-map (price_at prices) rows
          ∙ restricted-balance grid penalty pairing prices pays chosen certified chosen_each
          ∙ ap (λ n. n + sum_by (price_at pays) columns) (sym (restricted-cost grid part penalty own_penalty pairing own rows columns of kept.columns_kept))
          ∙ ap (λ n. pairing_cost part own_penalty own + n) (sym (ap sum kept.pays_kept ∙ sum-map (price_at pays) columns));
    }
  where
    rows : List ℕ
    rows = rows_into chosen pairing

    columns : List ℕ
    columns = chosen_columns chosen

    row-low : (row : ℕ) → row < length rows → get_or rows row 0 < grid.rows
    row-low row low = omega (
      arith,
      kept-below (λ r. is_chosen chosen (column_of pairing r)) (length pairing) row low,
      certified.paired.one_each,
    )

    column-low : (column : ℕ) → column < length columns → get_or columns column 0 < grid.columns
    column-low column low = omega (arith, kept-below (λ c. get_or chosen c false) (length chosen) column low, chosen_each)

    all_capped : All (λ price. price ≤ own_penalty) (map (price_at prices) rows)
    all_capped k d low =
        let below : k < length rows = omega (arith, low, length-map rows (price_at prices)) in
        subst (λ price. price ≤ own_penalty) (sym (get_or-map (price_at prices) rows k 0 d below))
        (omega (arith, certified.capped (get_or rows k 0) 0 (omega (arith, row-low k below, certified.prices_each))))

    covered : (row column : ℕ) → row < length rows → column < length columns
        → IfSome (cell_at part row column) (λ amount. price_at own_prices row ≤ amount + price_at own_pays column)
    covered row column low column_low =
        subst (λ price. IfSome (cell_at part row column) (λ amount. price ≤ amount + price_at own_pays column))
        (sym (at-place prices rows own_prices row kept.prices_kept low))
        (subst (λ pay. IfSome (cell_at part row column) (λ amount. price_at prices (get_or rows row 0) ≤ amount + pay))
        (sym (at-place pays columns own_pays column kept.pays_kept column_low))
        (subst (λ o. IfSome o (λ amount. price_at prices (get_or rows row 0) ≤ amount + price_at pays (get_or columns column 0)))
        (sym (of.cells_same row column low column_low))
        (certified.covered (get_or rows row 0) (get_or columns column 0) (row-low row low) (column-low column column_low))))
