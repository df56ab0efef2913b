-- A pairing of all rows, certified by its prices.
use Rattle.hungarian.proofs.Common.{◌≡◌, ◌≢◌, ℕ, zero, suc, ◌+◌, ◌<◌, ◌≤◌, inl, inr, List, [], ◌∷◌, length, set, refl, sym, ◌∙◌, ap, arith, Option, Some, None, is_some, sum, sum_by, range_with_len, cases_eq, length-set, get_or-set_same, get_or-set_other, get_or_default, fill_by_all, sum_by-set, sum_by-cons, sum-map, same_Some, GridCells, cell_at, IsPairing, row_cost, price_at, CertifiesPairing, sum_by-range-more, Matches, Duals, mate, IsPartial}
use Rattle.hungarian.proofs.Mated.{mate-in, cases_mate}
use Rattle.hungarian.proofs.Paths.{if-some}

-- what the column of a row pays
abbrev paid : List ℕ → Option ℕ → ℕ
paid pays None = 0
paid pays (Some column) = price_at pays column

-- a sum over the rows
abbrev over_rows : (ℕ → ℕ) → ℕ → ℕ
over_rows f n = sum_by f (range_with_len 0 n)

-- a sum with one row more
over_rows-more : (f : ℕ → ℕ) (n : ℕ) → over_rows f (suc n) ≡ over_rows f n + f n
over_rows-more f n = let one : suc n ≡ n + 1 = omega arith in ap (over_rows f) one ∙ sum_by-range-more f n

-- equal terms
over_rows-same : (f g : ℕ → ℕ) (n : ℕ) → ((k : ℕ) → k < n → f k ≡ g k) → over_rows f n ≡ over_rows g n
over_rows-same f g zero same = refl
over_rows-same f g (suc n) same =
    omega (
      arith,
      over_rows-more f n,
      over_rows-more g n,
      over_rows-same f g n (λ k low. same k (omega (arith, low))),
      same n
          (omega arith),
    )

-- terms of two parts
over_rows-parts : (f g h : ℕ → ℕ) (n : ℕ) → ((k : ℕ) → k < n → f k ≡ g k + h k) → over_rows f n ≡ over_rows g n + over_rows h n
over_rows-parts f g h zero parts = refl
over_rows-parts f g h (suc n) parts =
    omega (
      arith,
      over_rows-more f n,
      over_rows-more g n,
      over_rows-more h n,
      over_rows-parts f g h n (λ k low. parts k (omega (arith, low))),
      parts n (omega arith),
    )

-- numbers that are all 0
sum-zeros : (xs : List ℕ) → ((k : ℕ) → price_at xs k ≡ 0) → sum xs ≡ 0
sum-zeros [] zeros = refl
sum-zeros (x ∷ xs) zeros = omega (arith, sum_by-cons (λ n. n) x xs, zeros 0, sum-zeros xs (λ k. zeros (suc k)))

-- numbers sum to their sum by place
sum-by-place : (xs : List ℕ) → sum xs ≡ over_rows (price_at xs) (length xs)
sum-by-place xs = ap sum (fill_by_all (price_at xs) xs (length xs) 0 refl (λ k low. refl))
    ∙ sum-map (price_at xs) (range_with_len 0 (length xs))

-- each column that pays is the column of a row, and of one only: what the rows' columns pay is all that is paid
paid-by_rows : (n : ℕ) (pays : List ℕ) (columns : List (Option ℕ))
    → ((row other column : ℕ) → row < n → other < n → mate columns row ≡ Some column → mate columns other ≡ Some column → row
    ≡ other)
    → ((row column : ℕ) → row < n → mate columns row ≡ Some column → column < length pays)
    → ((column : ℕ) → price_at pays column ≢ 0 → (row : ℕ) × (row < n) × (mate columns row ≡ Some column))
    → sum pays ≡ over_rows (λ row. paid pays (mate columns row)) n
paid-by_rows zero pays columns once inside paying = sum-zeros pays (λ k. elim (cases_eq (price_at pays k) 0) [
  | inl none ↦ none
  | inr some ↦ absurd (omega (arith, (paying k some).1))
])
paid-by_rows (suc n) pays columns once inside paying = elim (cases_mate (mate columns n)) [
  | inl none ↦
      let rest = paid-by_rows n pays columns (λ r o c r_low o_low. once r o c (omega (arith, r_low)) (omega (arith, o_low)))
      (λ r c r_low. inside r c (omega (arith, r_low)))
      (λ c some.
      let (r, low, had) = paying c some in
      let differs : r ≢ n = λ same. cc (none, had, ap (mate columns) same) in
      (r, omega (arith, low, differs), had)) in
      let here : paid pays (mate columns n) ≡ 0 = ap (paid pays) none in
      omega (arith, rest, over_rows-more (λ row. paid pays (mate columns row)) n, here)
  | inr some ↦
      let column = some.0 in
      let low = inside n column (omega arith) some.1 in
      let less = set pays column 0 in
      let rest = paid-by_rows n less columns (λ r o c r_low o_low. once r o c (omega (arith, r_low)) (omega (arith, o_low)))
      (λ r c r_low had. omega (arith, inside r c (omega (arith, r_low)) had, length-set pays column 0))
      (λ c pays_c.
      let differs : c ≢ column = λ same. pays_c (ap (price_at less) same ∙ get_or-set_same pays column 0 0 low) in
      let (r, r_low, had) = paying c (λ none. pays_c (get_or-set_other pays column c 0 0 differs ∙ none)) in
      let apart : r ≢ n = λ same. differs (same_Some c column (sym had ∙ ap (mate columns) same ∙ some.1)) in
      (r, omega (arith, r_low, apart), had)) in
      let same = over_rows-same (λ row. paid less (mate columns row)) (λ row. paid pays (mate columns row)) n
      (λ r r_low. elim (cases_mate (mate columns r)) [
        | inl none ↦ ap (paid less) none ∙ ap (paid pays) (sym none)
        | inr had ↦
            let differs : had.0 ≢ column =
            λ e. omega (
              arith,
              r_low,
              once r n column (omega (arith, r_low)) (omega arith)
                  (had.1 ∙ ap (λ k. Some k) e) some.1,
            ) in
            ap (paid less) had.1 ∙ get_or-set_other pays column had.0 0 0 differs ∙ ap (paid pays) (sym had.1)
      ]) in
      let here : paid pays (mate columns n) ≡ price_at pays column = ap (paid pays) some.1 in
      omega (
        arith,
        rest,
        same,
        here,
        over_rows-more (λ row. paid pays (mate columns row)) n,
        sum_by-set
            (λ x. x) pays column 0 0 low,
      )
]

-- a row's price is what it costs and what its column pays
price-parts : (grid : GridCells) (penalty : ℕ) (matches : Matches) (duals : Duals) (row : ℕ)
    → IsPartial grid penalty grid.rows matches duals → row < grid.rows
    → price_at duals.prices.items row
    ≡ row_cost grid penalty row (mate matches.columns.items row) + paid duals.pays.items (mate matches.columns.items row)
price-parts grid penalty matches duals row partial low =
    let parts = λ (o : Option ℕ). row_cost grid penalty row o + paid duals.pays.items o in
    elim (cases_mate (mate matches.columns.items row)) [
      | inl none ↦
          let here : parts None ≡ penalty = omega arith in
          partial.left row low none ∙ sym here ∙ ap parts (sym none)
      | inr some ↦
          let t = partial.tight row some.0 some.1 in
          let cost : row_cost grid penalty row (Some some.0) ≡ t.amount = rw t.cell_is refl in
          t.tight ∙ ap (λ n. n + price_at duals.pays.items some.0) (sym cost) ∙ ap parts (sym some.1)
    ]

-- the pairing of all rows is one of the grid
pairing-of_rows : (grid : GridCells) (penalty : ℕ) (matches : Matches) (duals : Duals)
    → IsPartial grid penalty grid.rows matches duals
    → IsPairing grid matches.columns.items
pairing-of_rows grid penalty matches duals partial = record {
  one_each = partial.lists.rows_each;
  in_grid = λ row column had. omega
      (arith, partial.lists.columns_each, mate-in matches.rows.items column row (partial.mates.column_back row column had));
  in_cells = λ row column had. ap is_some (partial.tight row column had).cell_is;
  columns_once = λ row other column had too.
      same_Some row other (sym (partial.mates.column_back row column had) ∙ partial.mates.column_back other column too);
}

-- the prices certify it
pub rows-certified : (grid : GridCells) (penalty : ℕ) (matches : Matches) (duals : Duals)
    → IsPartial grid penalty grid.rows matches duals
    → CertifiesPairing grid penalty matches.columns.items duals.prices.items duals.pays.items
rows-certified grid penalty matches duals partial =
    let columns = matches.columns.items in
    let pairing = pairing-of_rows grid penalty matches duals partial in
    let paid_all = paid-by_rows grid.rows duals.pays.items columns
    (λ row other column _ _. pairing.columns_once row other column)
    (λ row column _ had. omega (arith, pairing.in_grid row column had, partial.lists.pays_each))
    (λ column some. elim (cases_mate (mate matches.rows.items column)) [
      | inl none ↦ absurd (some (partial.free column none))
      | inr row ↦
          let had = partial.mates.row_back row.0 column row.1 in
          (row.0, omega (arith, partial.lists.rows_each, mate-in columns row.0 column had), had)
    ]) in
    let parts = over_rows-parts (price_at duals.prices.items) (λ row. row_cost grid penalty row (mate columns row))
    (λ row. paid duals.pays.items (mate columns row)) grid.rows
    (λ row low. price-parts grid penalty matches duals row partial low) in
    let all : sum duals.prices.items ≡ over_rows (price_at duals.prices.items) grid.rows
    = sum-by-place duals.prices.items ∙ ap (over_rows (price_at duals.prices.items)) partial.lists.prices_each in
    record {
      paired = pairing;
      prices_each = partial.lists.prices_each;
      pays_each = partial.lists.pays_each;
      capped = λ row d low. omega (arith, partial.capped row, get_or_default duals.prices.items row d 0 low);
      covered = λ row column row_in column_in. if-some (cell_at grid row column)
          (λ amount. price_at duals.prices.items row ≤ amount + price_at duals.pays.items column)
          (λ amount is. partial.covered row column amount row_in column_in is);
      balanced = omega (arith, all, parts, paid_all);
    }
