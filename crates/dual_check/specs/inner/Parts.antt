-- The parts of what certifies a pairing.
use Rattle.std.specs.Prelude.{◌≡◌, ℕ, ◌+◌, ◌<◌, ◌≤◌, List, length, take, slice_index_or, Option, Some, None, IfSome, IsSome}
use Rattle.dual_check.specs.Cells.{GridCells, cell_at}
use Rattle.dual_check.specs.Grid.{column_of, price_at}

-- a row's column, if any, is one of the grid's, with an amount there
abbrev pub StandsInCell : GridCells → ℕ → Option ℕ → Type 0
StandsInCell grid row given = IfSome given (λ column. (column < grid.columns) × IsSome (cell_at grid row column))

-- so does each row's column
abbrev pub StandsInCells : GridCells → List (Option ℕ) → Type 0
StandsInCells grid pairing = (row : ℕ) → row < length pairing → StandsInCell grid row (column_of pairing row)

-- a column, if any, is of none of these rows
abbrev pub IsFree : List (Option ℕ) → Option ℕ → Type 0
IsFree pairing given = IfSome given (λ column. (row : ℕ) → column_of pairing row ≡ Some column → ⊥)

-- each row's column, if any, is of none of the rows before it
abbrev pub HasColumnsOnce : List (Option ℕ) → Type 0
HasColumnsOnce pairing = (row : ℕ) → row < length pairing → IsFree (take row pairing) (column_of pairing row)

-- a price is at most each amount of some cells and its column's payment
abbrev pub CoversCells : List (Option ℕ) → ℕ → List ℕ → Type 0
CoversCells cells price pays = (column : ℕ) → column < length cells
    → IfSome (slice_index_or cells column None) (λ amount. price ≤ amount + price_at pays column)

-- a price is at most each amount of a row and its column's payment
abbrev pub CoversRow : GridCells → ℕ → ℕ → List ℕ → Type 0
CoversRow grid row price pays = (column : ℕ) → column < grid.columns
    → IfSome (cell_at grid row column) (λ amount. price ≤ amount + price_at pays column)

-- each row's price is at most each amount of the row and its column's payment
abbrev pub CoversGrid : GridCells → List ℕ → List ℕ → Type 0
CoversGrid grid prices pays = (row : ℕ) → row < length prices → CoversRow grid row (price_at prices row) pays
