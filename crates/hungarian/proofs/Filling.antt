-- A grid while the costs of a table's row are written into it.
use Rattle.hungarian.proofs.Common.{◌≡◌, ◌≢◌, ℕ, ◌+◌, ◌*◌, ◌<◌, ◌≤◌, inl, inr, length, set, sym, ◌∙◌, ap, arith, Some, None, cases_eq, length-set, get_or-set_same, get_or-set_other, mul-add-lt, same_from_place, Table, GridCells, cell_at, cost_of}
use Rattle.batch_commit.specs.inner.Table.{cell_at as offer_at}

-- the costs of a row's first columns were written, and nothing else
pub record IsFilling (table : Table) (row columns count : ℕ) (old now : GridCells) : Type 0 where
  pub sized : length now.cells ≡ now.rows * now.columns
  pub rows : now.rows ≡ old.rows
  pub columns_are : now.columns ≡ old.columns
  pub filled : (column : ℕ) → column < count → cell_at now row column ≡ cost_of (offer_at table row column)
  pub left : (column : ℕ) → count ≤ column → column < columns → cell_at now row column ≡ None
  pub others : (other column : ℕ) → other ≢ row → column < columns → cell_at now other column ≡ cell_at old other column

-- a cell without an offer
pub filling-none : (table : Table) (row columns count : ℕ) (old now : GridCells) → IsFilling table row columns count old now
    → count < columns → cost_of (offer_at table row count) ≡ None → IsFilling table row columns (count + 1) old now
filling-none table row columns count old now f low none = record {
  sized = f.sized;
  rows = f.rows;
  columns_are = f.columns_are;
  filled = λ column before. elim (cases_eq column count) [
    | inl same ↦ ap (cell_at now row) same ∙ f.left count (omega arith) low ∙ sym none
        ∙ ap (λ c. cost_of (offer_at table row c)) (sym same)
    | inr differs ↦ f.filled column (omega (arith, before, differs))
  ];
  left = λ column past. f.left column (omega (arith, past));
  others = f.others;
}

-- the grid with one cell written
abbrev pub written : GridCells → ℕ → ℕ → ℕ → GridCells
written now row column amount = record now { cells = set now.cells (row * now.columns + column) (Some amount) }

-- a cell with an offer
pub filling-some : (table : Table) (row columns count amount : ℕ) (old now : GridCells)
    → IsFilling table row columns count old now
    → count < columns → row < now.rows → now.columns ≡ columns → cost_of (offer_at table row count) ≡ Some amount
    → IsFilling table row columns (count + 1) old (written now row count amount)
filling-some table row columns count amount old now f low row_in columns_is some =
    let place = row * now.columns + count in
    let inside : place < length now.cells
    = omega (arith, f.sized, mul-add-lt row now.columns count now.rows row_in (omega (arith, low, columns_is))) in
    let kept : (r c : ℕ) → (r ≡ row → c ≡ count → ⊥) → c < columns → cell_at (written now row count amount) r c ≡ cell_at now r c
    = λ r c apart c_low. get_or-set_other now.cells place (r * now.columns + c) (Some amount) None
    (λ same.
    let (rows_same, columns_same) = same_from_place r c row count now.columns (omega (arith, c_low, columns_is))
    (omega (arith, low, columns_is)) same in
    apart rows_same columns_same) in
    record {
      sized = length-set now.cells place (Some amount) ∙ f.sized;
      rows = f.rows;
      columns_are = f.columns_are;
      filled = λ column before. elim (cases_eq column count) [
        | inl same ↦ ap (cell_at (written now row count amount) row) same
            ∙ get_or-set_same now.cells place (Some amount) None inside ∙ sym some
            ∙ ap (λ c. cost_of (offer_at table row c)) (sym same)
        | inr differs ↦ kept row column (λ _ same. differs same) (omega (arith, before, low))
            ∙ f.filled column (omega (arith, before, differs))
      ];
      left = λ column past c_low. kept row column (λ _ same. omega (arith, past, same)) c_low
          ∙ f.left column (omega (arith, past)) c_low;
      others = λ other column differs c_low. kept other column (λ same _. differs same) c_low
          ∙ f.others other column differs c_low;
    }
