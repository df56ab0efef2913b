-- A grid of which some cells are written.
use Rattle.std.specs.Prelude.{◌≡◌, ℕ, ◌<◌}
use Rattle.dual_check.specs.Cells.{GridCells, cell_at}

-- a grid has changed in these cells alone
pub record ChangesOnly (IsChanged : ℕ → ℕ → Type 0) (old now : GridCells) : Type 0 where
  pub rows_same : now.rows ≡ old.rows
  pub columns_same : now.columns ≡ old.columns
  pub others_same : (row column : ℕ) → column < old.columns → (IsChanged row column → ⊥) → cell_at now row column ≡ cell_at old row column
