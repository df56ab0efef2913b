-- A grid that is filled from its first cell on.
use Rattle.std.specs.Prelude.{◌≡◌, ℕ, ◌+◌, ◌*◌, ◌++◌, List, length, replicate, slice_set, Option, Some, None}
use Rattle.dual_check.specs.Cells.{GridCells}

-- the first cells were written so, and the others are empty
pub record BeginsWith (written : List (Option ℕ)) (grid : GridCells) : Type 0 where
  pub left : ℕ
  pub sized : length written + left ≡ grid.rows * grid.columns
  pub cells_are : grid.cells ≡ written ++ replicate left None

-- a grid with a cell that is written, if there is an amount
abbrev pub with_cell : GridCells → ℕ → Option ℕ → GridCells
with_cell grid place None = grid
with_cell grid place (Some amount) = record grid { cells = slice_set grid.cells place (Some amount) }
