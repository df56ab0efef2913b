-- The part of a pairing that falls into some of a grid's columns.
use Rattle.std.specs.Prelude.{◌≡◌, ℕ, ◌<◌, Bool, false, List, length, slice_index, slice_index_or, map, Option, Some, None}
use Rattle.std.specs.List.{filter, range_with_len}
use Rattle.dual_check.specs.Cells.{GridCells, cell_at}
use Rattle.dual_check.specs.Grid.{column_of, price_at}

-- whether a row's column, if it has one, is chosen
abbrev pub is_chosen : List Bool → Option ℕ → Bool
is_chosen chosen None = false
is_chosen chosen (Some column) = slice_index_or chosen column false

-- the chosen columns, in order
abbrev pub chosen_columns : List Bool → List ℕ
chosen_columns chosen = filter (λ column. slice_index_or chosen column false) (range_with_len 0 (length chosen))

-- the rows that a pairing pairs into the chosen columns, in order
abbrev pub rows_into : List Bool → List (Option ℕ) → List ℕ
rows_into chosen pairing = filter (λ row. is_chosen chosen (column_of pairing row)) (range_with_len 0 (length pairing))

-- some rows and columns of a grid, with their cells
pub record IsPart (grid : GridCells) (rows columns : List ℕ) (part : GridCells) : Type 0 where
  pub rows_each : part.rows ≡ length rows
  pub columns_each : part.columns ≡ length columns
  pub cells_same : (row column : ℕ) → row < length rows → column < length columns
      → cell_at part row column ≡ cell_at grid (slice_index rows row) (slice_index columns column)

-- each of some rows has its column, by the places of both
pub record KeepsColumns (pairing : List (Option ℕ)) (rows columns : List ℕ) (own : List (Option ℕ)) : Type 0 where
  pub one_each : length own ≡ length rows
  pub same_column : (row : ℕ) → row < length rows → (column : ℕ) × (column < length columns)
      × (column_of own row ≡ Some column) × (column_of pairing (slice_index rows row) ≡ Some (slice_index columns column))

-- a pairing and its prices, kept to the chosen columns and the rows that are paired into them
pub record IsRestrictedTo (chosen : List Bool) (pairing : List (Option ℕ)) (prices pays : List ℕ) (own : List (Option ℕ))
    (own_prices own_pays : List ℕ) : Type 0 where
  pub columns_kept : KeepsColumns pairing (rows_into chosen pairing) (chosen_columns chosen) own
  pub prices_kept : own_prices ≡ map (price_at prices) (rows_into chosen pairing)
  pub pays_kept : own_pays ≡ map (price_at pays) (chosen_columns chosen)
