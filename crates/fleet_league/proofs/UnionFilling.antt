-- A union grid while it is filled.
use Rattle.fleet_league.proofs.Common.{◌≡◌, ℕ, ◌+◌, ◌*◌, ◌<◌, ◌≤◌, inl, inr, List, length, get_or, set, sym, ◌∙◌, ap, refl, subst, arith, Option, Some, None, All, slice_get, take, replicate, option_map, cases_eq, cases_lt, get_or-replicate, get_or-map, get_or-set_other, get_or_past, length-map, length-replicate, take-take, sum_by_more, sum_by-take-le, same_from_place, get_or_from_slice_get, slice_get-get_or, slice_get-map, slice_get_within, sum_by-map, GridCells, IsGrid, ChangesOnly, Quote, IsUnion, StandsFrom, columns_before, company_prices}
use Rattle.std.specs.Prelude.{sum_by}
use Rattle.dual_check.specs.Cells.{cell_at}

-- a grid with a cell that is written changes in this cell alone
pub changes-cell : (grid : GridCells) (row column amount : ℕ) → column < grid.columns
    → ChangesOnly (λ other place. (other ≡ row) × (place ≡ column)) grid
    (record grid { cells = set grid.cells (row * grid.columns + column) (Some amount) })
changes-cell grid row column amount low = record {
  rows_same = refl;
  columns_same = refl;
  others_same = λ other place place_low differs.
      get_or-set_other grid.cells (row * grid.columns + column) (other * grid.columns + place) (Some amount) None
      (λ same. differs (same_from_place other place row column grid.columns place_low low same));
}

-- a row's cells from a column on are those of a list of prices, up to a place
abbrev pub HasPrices : GridCells → GridCells → ℕ → ℕ → ℕ → Type 0
HasPrices own grid first row count = (column : ℕ) → column < count → cell_at grid row (first + column) ≡ cell_at own row column

-- the cells of some rows are written
abbrev pub HasRows : GridCells → GridCells → ℕ → ℕ → Type 0
HasRows own grid first rows = (row column : ℕ) → row < rows → column < own.columns
    → cell_at grid row (first + column) ≡ cell_at own row column

-- one more row is written
pub rows-more : (own old now : GridCells) (first row : ℕ) → first + own.columns ≤ old.columns → HasRows own old first row
    → ChangesOnly (λ other place. (other ≡ row) × (first ≤ place) × (place < first + own.columns)) old now
    → HasPrices own now first row own.columns → HasRows own now first (row + 1)
rows-more own old now first row fits has changes prices = λ other column before low. elim (cases_eq other row) [
  | inl same ↦ subst (λ r. cell_at now r (first + column) ≡ cell_at own r column) (sym same) (prices column low)
  | inr differs ↦ changes.others_same other (first + column) (omega (arith, low, fits)) (λ same. differs same.0)
      ∙ has other column (omega (arith, before, differs)) low
]

-- the prices of the first companies stand in a grid, whose other columns are bare
pub record IsUnionSoFar (companies : List GridCells) (count first : ℕ) (grid : GridCells) : Type 0 where
  pub first_is : first ≡ columns_before companies count
  pub rows_same : All (λ (own : GridCells). own.rows ≡ grid.rows) companies
  pub columns_all : grid.columns ≡ sum_by (λ (own : GridCells). own.columns) companies
  pub stands : (k : ℕ) (own : GridCells) → k < count → slice_get companies k ≡ Some own
      → StandsFrom (columns_before companies k) own grid
  pub bare : (row column : ℕ) → first ≤ column → column < grid.columns → cell_at grid row column ≡ None

-- a company has its columns before those of later ones
columns-more : (companies : List GridCells) (k : ℕ) (own : GridCells) → slice_get companies k ≡ Some own
    → columns_before companies (k + 1) ≡ columns_before companies k + own.columns
columns-more companies k own is =
    sum_by_more (λ (one : GridCells). one.columns) companies k own (slice_get_within companies k own is)
    ∙ ap (λ (one : GridCells). columns_before companies k + one.columns) (get_or_from_slice_get companies k own own is)

-- more companies have more columns
columns-rise : (companies : List GridCells) (k count : ℕ) → k ≤ count → columns_before companies k ≤ columns_before companies count
columns-rise companies k count low =
    subst (λ xs. sum_by (λ (one : GridCells). one.columns) xs ≤ columns_before companies count) (take-take k count companies low)
    (sum_by-take-le (λ (one : GridCells). one.columns) (take count companies) k)

-- one more company is written
pub union-more : (companies : List GridCells) (count first : ℕ) (own old now : GridCells) → slice_get companies count ≡ Some own
    → IsUnionSoFar companies count first old → StandsFrom first own now
    → ChangesOnly (λ _ column. (first ≤ column) × (column < first + own.columns)) old now
    → IsUnionSoFar companies (count + 1) (first + own.columns) now
union-more companies count first own old now is so_far stands changes = record {
  first_is = ap (λ n. n + own.columns) so_far.first_is ∙ sym (columns-more companies count own is);
  rows_same = λ k d low. so_far.rows_same k d low ∙ sym changes.rows_same;
  columns_all = changes.columns_same ∙ so_far.columns_all;
  stands = λ k one before one_is. elim (cases_eq k count) [
    | inl same ↦ here k one same one_is
    | inr differs ↦ earlier k one (omega (arith, before, differs)) one_is
  ];
  bare = λ row column past low.
      changes.others_same row column (omega (arith, low, changes.columns_same)) (λ inside. omega (arith, inside.1, past))
      ∙ so_far.bare row column (omega (arith, past)) (omega (arith, low, changes.columns_same));
}
  where
    -- the columns so far are columns of the grid
    room : first ≤ old.columns
    room = omega (arith, so_far.first_is, so_far.columns_all, sum_by-take-le (λ (one : GridCells). one.columns) companies count)

    here : (k : ℕ) (one : GridCells) → k ≡ count → slice_get companies k ≡ Some one → StandsFrom (columns_before companies k) one now
    here k one same one_is =
        let one_same : own ≡ one = cc (is, one_is, ap (slice_get companies) same) in
        subst (λ n. StandsFrom n one now) (so_far.first_is ∙ ap (columns_before companies) (sym same))
        (subst (λ o. StandsFrom first o now) one_same stands)

    earlier : (k : ℕ) (one : GridCells) → k < count → slice_get companies k ≡ Some one → StandsFrom (columns_before companies k) one now
    earlier k one before one_is =
        let below : columns_before companies k + one.columns ≤ first = omega (
          arith,
          columns-more companies k one one_is,
          columns-rise companies (k + 1) count (omega (arith, before)),
          so_far.first_is,
        ) in
        record {
          cells_same = λ row column row_low low.
              changes.others_same row (columns_before companies k + column) (omega (arith, below, low, room))
              (λ inside. omega (arith, inside.0, below, low))
              ∙ (so_far.stands k one before one_is).cells_same row column row_low low;
        }

-- a company's columns are columns of the grid
pub union-room : (companies : List GridCells) (count first : ℕ) (own grid : GridCells) → slice_get companies count ≡ Some own
    → IsUnionSoFar companies count first grid → first + own.columns ≤ grid.columns
union-room companies count first own grid is so_far = omega (
  arith,
  columns-more companies count own is,
  so_far.first_is,
  so_far.columns_all,
  sum_by-take-le (λ (one : GridCells). one.columns) companies (count + 1),
)

-- all companies are written
pub union-all : (companies : List GridCells) (count first : ℕ) (grid : GridCells) → length companies ≤ count → IsGrid grid
    → IsUnionSoFar companies count first grid → IsUnion companies grid
union-all companies count first grid all fits so_far = record {
  fits = fits;
  rows_same = so_far.rows_same;
  columns_all = so_far.columns_all;
  stands = λ k own is. so_far.stands k own (omega (arith, all, slice_get_within companies k own is)) is;
}

-- no company is written
pub union-none : (companies : List GridCells) (rows columns : ℕ) → All (λ (own : GridCells). own.rows ≡ rows) companies
    → columns ≡ sum_by (λ (own : GridCells). own.columns) companies
    → IsUnionSoFar companies 0 0 (record { rows = rows; columns = columns; cells = replicate (rows * columns) None })
union-none companies rows columns same all = record {
  first_is = refl;
  rows_same = same;
  columns_all = all;
  stands = λ k own before _. absurd (omega (arith, before));
  bare = λ row column _ _. bare (rows * columns) (row * columns + column);
}
  where
    none : Option ℕ
    none = None

    bare : (n k : ℕ) → get_or (replicate n none) k none ≡ none
    bare n k = elim (cases_lt k n) [
      | inl below ↦ get_or-replicate n k none none below
      | inr past ↦ get_or_past (replicate n none) k none (omega (arith, past, length-replicate n none))
    ]

-- the prices of the quote at a place
pub prices-at : (quotes : List Quote) (k : ℕ) (quote : Quote) → k < length quotes → quote ≡ get_or quotes k quote
    → slice_get (company_prices quotes) k ≡ Some quote.prices
prices-at quotes k quote low is =
    slice_get-map (λ (one : Quote). one.prices) quotes k
    ∙ ap (option_map (λ (one : Quote). one.prices)) (slice_get-get_or quotes k quote low)
    ∙ ap (λ (one : Quote). Some one.prices) (sym is)

-- all companies price as many rides as one of them
pub rows-all : (quotes : List Quote) (k rides : ℕ) (quote : Quote) → All (λ (one : Quote). one.prices.rows ≡ rides) quotes
    → k < length quotes → quote ≡ get_or quotes k quote → All (λ (own : GridCells). own.rows ≡ quote.prices.rows) (company_prices quotes)
rows-all quotes k rides quote same low is = λ place d place_low.
    let below : place < length quotes = omega (arith, place_low, length-map quotes (λ (one : Quote). one.prices)) in
    ap (λ (own : GridCells). own.rows) (get_or-map (λ (one : Quote). one.prices) quotes place quote d below)
    ∙ same place quote below ∙ sym (same k quote low) ∙ ap (λ (one : Quote). one.prices.rows) (sym is)

-- the vehicles of all quotes are those of their prices
pub sum-prices : (quotes : List Quote) → sum_by (λ (one : Quote). one.prices.columns) quotes
    ≡ sum_by (λ (own : GridCells). own.columns) (company_prices quotes)
sum-prices quotes = sym (sum_by-map (λ (own : GridCells). own.columns) (λ (one : Quote). one.prices) quotes)
