-- A pairing before it has any row.
use Rattle.hungarian.proofs.Common.{◌≡◌, ℕ, zero, suc, length, replicate, refl, sym, ◌∙◌, ap, arith, Option, Some, None, length-replicate, GridCells, price_at, Matches, Duals, mate, IsPartial}

abbrev no_mate : Option ℕ
no_mate = None

-- nothing but None
none-mated : (n place : ℕ) → mate (replicate n None) place ≡ None
none-mated zero place = refl
none-mated (suc n) zero = refl
none-mated (suc n) (suc place) = none-mated n place

-- nothing but 0
none-priced : (n place : ℕ) → price_at (replicate n 0) place ≡ 0
none-priced zero place = refl
none-priced (suc n) zero = refl
none-priced (suc n) (suc place) = none-priced n place

-- none of the rows is paired yet, and nothing is priced
pub partial-none : (grid : GridCells) (penalty : ℕ) (matches : Matches) (duals : Duals) → matches.columns.items ≡ replicate grid.rows None
    → matches.rows.items ≡ replicate grid.columns None → duals.prices.items ≡ replicate grid.rows 0
    → duals.pays.items ≡ replicate grid.columns 0 → IsPartial grid penalty 0 matches duals
partial-none grid penalty matches duals columns_are rows_are prices_are pays_are =
    let unmated : (row : ℕ) → mate matches.columns.items row ≡ None = λ row. ap (λ ms. mate ms row) columns_are ∙ none-mated grid.rows row in
    let free : (column : ℕ) → mate matches.rows.items column ≡ None = λ column. ap (λ ms. mate ms column) rows_are ∙ none-mated grid.columns column in
    let priced : (row : ℕ) → price_at duals.prices.items row ≡ 0 = λ row. ap (λ ps. price_at ps row) prices_are ∙ none-priced grid.rows row in
    let paid : (column : ℕ) → price_at duals.pays.items column ≡ 0 = λ column. ap (λ ps. price_at ps column) pays_are ∙ none-priced grid.columns column in
    record {
      lists = record {
        rows_each = ap (λ ms. length ms) columns_are ∙ length-replicate grid.rows no_mate;
        columns_each = ap (λ ms. length ms) rows_are ∙ length-replicate grid.columns no_mate;
        prices_each = ap (λ ps. length ps) prices_are ∙ length-replicate grid.rows 0;
        pays_each = ap (λ ps. length ps) pays_are ∙ length-replicate grid.columns 0;
      };
      mates = record {
        column_back = λ row column is. (let both : Some column ≡ None = sym is ∙ unmated row in absurd (cc both));
        row_back = λ row column is. (let both : Some row ≡ None = sym is ∙ free column in absurd (cc both));
      };
      later = λ row from. unmated row;
      capped = λ row. omega (arith, priced row);
      covered = λ row column amount row_in column_in is. omega (arith, priced row);
      tight = λ row column is. (let both : Some column ≡ None = sym is ∙ unmated row in absurd (cc both));
      left = λ row before is. absurd (omega arith);
      free = λ column is. paid column;
    }
