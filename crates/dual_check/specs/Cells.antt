-- The cells of a grid.
use Rattle.std.specs.Prelude.{◌≡◌, ℕ, ◌+◌, ◌*◌, ◌<◌, ◌≤◌, ◌^◌, List, length, slice_index_or, All, Option, None, IfSome}
use Rattle.ride_model.specs.declared.limits.TheConstants.{LARGEST_BATCH}
use Rattle.dual_check.specs.declared.grids.TheConstants.{WIDEST_GRID}

-- a grid of rows and columns, its cells row by row: each an amount or none
pub record GridCells : Type 0 where
  pub rows : ℕ
  pub columns : ℕ
  pub cells : List (Option ℕ)

-- the cell of a row and a column
abbrev pub cell_at : GridCells → ℕ → ℕ → Option ℕ
cell_at grid row column = slice_index_or grid.cells (row * grid.columns + column) None

-- an amount is below 2^42
abbrev pub IsSmall : Option ℕ → Type 0
IsSmall cell = IfSome cell (λ amount. amount < 2 ^ 42)

-- the limits of a grid
pub record IsGrid (grid : GridCells) : Type 0 where
  pub rows_limit : grid.rows ≤ LARGEST_BATCH
  pub columns_limit : grid.columns ≤ WIDEST_GRID
  pub one_each : length grid.cells ≡ grid.rows * grid.columns
  pub amounts_limit : All IsSmall grid.cells
