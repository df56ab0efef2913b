-- The columns of rows and the rows of columns.
use Rattle.std.specs.Prelude.{◌≡◌, ◌≢◌, ℕ, List, slice_index_or, Option, Some, None}

-- the column of a row, or the row of a column, if any
abbrev pub mate : List (Option ℕ) → ℕ → Option ℕ
mate mates place = slice_index_or mates place None

-- a row has a column exactly where the column has the row
pub record AreMates (columns rows : List (Option ℕ)) : Type 0 where
  pub column_back : (row column : ℕ) → mate columns row ≡ Some column → mate rows column ≡ Some row
  pub row_back : (row column : ℕ) → mate rows column ≡ Some row → mate columns row ≡ Some column

-- the same but for one column: no row has it, whatever row it has
pub record AreMatesBut (last : ℕ) (columns rows : List (Option ℕ)) : Type 0 where
  pub column_back : (row column : ℕ) → mate columns row ≡ Some column → mate rows column ≡ Some row
  pub row_back : (row column : ℕ) → column ≢ last → mate rows column ≡ Some row → mate columns row ≡ Some column
  pub unclaimed : (row : ℕ) → mate columns row ≢ Some last
