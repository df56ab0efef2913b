-- Pairings of a grid's rows and columns, what they cost, and the prices that certify one.
use Rattle.std.specs.Prelude.{◌≡◌, ℕ, ◌+◌, ◌<◌, ◌≤◌, List, length, slice_index_or, sum, sum_by, All, Option, Some, None, IfSome, IsSome, unwrap_or}
use Rattle.std.specs.List.{range_with_len}
use Rattle.dual_check.specs.Cells.{GridCells, cell_at}

-- the column that a pairing gives a row, if any
abbrev pub column_of : List (Option ℕ) → ℕ → Option ℕ
column_of pairing row = slice_index_or pairing row None

-- a pairing gives each row a column or none: only where there is an amount, and each column at most once
pub record IsPairing (grid : GridCells) (pairing : List (Option ℕ)) : Type 0 where
  pub one_each : length pairing ≡ grid.rows
  pub in_grid : (row column : ℕ) → column_of pairing row ≡ Some column → column < grid.columns
  pub in_cells : (row column : ℕ) → column_of pairing row ≡ Some column → IsSome (cell_at grid row column)
  pub columns_once : (row other column : ℕ) → column_of pairing row ≡ Some column → column_of pairing other ≡ Some column → row ≡ other

-- what a row costs by its column: the amount, and the penalty without a column
abbrev pub row_cost : GridCells → ℕ → ℕ → Option ℕ → ℕ
row_cost grid penalty row None = penalty
row_cost grid penalty row (Some column) = unwrap_or (cell_at grid row column) 0

-- the cost of a pairing: its amounts, and the penalty for each row without a column
abbrev pub pairing_cost : GridCells → ℕ → List (Option ℕ) → ℕ
pairing_cost grid penalty pairing = sum_by (λ row. row_cost grid penalty row (column_of pairing row)) (range_with_len 0 grid.rows)

-- a pairing of which no other of the grid costs less
pub record IsLeastPairing (grid : GridCells) (penalty : ℕ) (pairing : List (Option ℕ)) : Type 0 where
  pub paired : IsPairing grid pairing
  pub least : (other : List (Option ℕ)) → IsPairing grid other → pairing_cost grid penalty pairing ≤ pairing_cost grid penalty other

-- the price of a row, and what a column pays
abbrev pub price_at : List ℕ → ℕ → ℕ
price_at prices place = slice_index_or prices place 0

-- prices of the rows, each at most the penalty, and payments of the columns certify a pairing: no row's price is above an
-- amount and its column's payment, and the prices less the payments are the pairing's cost
pub record CertifiesPairing (grid : GridCells) (penalty : ℕ) (pairing : List (Option ℕ)) (prices pays : List ℕ) : Type 0 where
  pub paired : IsPairing grid pairing
  pub prices_each : length prices ≡ grid.rows
  pub pays_each : length pays ≡ grid.columns
  pub capped : All (λ price. price ≤ penalty) prices
  pub covered : (row column : ℕ) → row < grid.rows → column < grid.columns
      → IfSome (cell_at grid row column) (λ amount. price_at prices row ≤ amount + price_at pays column)
  pub balanced : sum prices ≡ pairing_cost grid penalty pairing + sum pays
