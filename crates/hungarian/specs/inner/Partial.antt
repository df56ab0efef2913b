-- Pairings of a grid's first rows, with prices.
use Rattle.std.specs.Prelude.{◌≡◌, ℕ, ◌+◌, ◌<◌, ◌≤◌, length, Some, None}
use Rattle.dual_check.specs.Cells.{GridCells, cell_at}
use Rattle.dual_check.specs.Grid.{price_at}
use Rattle.hungarian.specs.declared.matches.Matches.{Matches}
use Rattle.hungarian.specs.declared.duals.Duals.{Duals}
use Rattle.hungarian.specs.inner.Mates.{mate, AreMates}

-- The lists have an item for each row or column.
pub record IsFor (grid : GridCells) (matches : Matches) (duals : Duals) : Type 0 where
  pub rows_each : length matches.columns.items ≡ grid.rows
  pub columns_each : length matches.rows.items ≡ grid.columns
  pub prices_each : length duals.prices.items ≡ grid.rows
  pub pays_each : length duals.pays.items ≡ grid.columns

-- a matched pair has an amount, and the row's price is the amount and what the column pays
pub record IsTight (grid : GridCells) (duals : Duals) (row column : ℕ) : Type 0 where
  pub amount : ℕ
  pub cell_is : cell_at grid row column ≡ Some amount
  pub tight : price_at duals.prices.items row ≡ amount + price_at duals.pays.items column

-- The first rows are paired: prices are at most the penalty and cover every amount, matched pairs are tight, a row that is
-- left out has the penalty as its price, and a free column pays nothing.
pub record IsPartial (grid : GridCells) (penalty done : ℕ) (matches : Matches) (duals : Duals) : Type 0 where
  pub lists : IsFor grid matches duals
  pub mates : AreMates matches.columns.items matches.rows.items
  pub later : (row : ℕ) → done ≤ row → mate matches.columns.items row ≡ None
  pub capped : (row : ℕ) → price_at duals.prices.items row ≤ penalty
  pub covered : (row column amount : ℕ) → row < grid.rows → column < grid.columns → cell_at grid row column ≡ Some amount
      → price_at duals.prices.items row ≤ amount + price_at duals.pays.items column
  pub tight : (row column : ℕ) → mate matches.columns.items row ≡ Some column → IsTight grid duals row column
  pub left : (row : ℕ) → row < done → mate matches.columns.items row ≡ None → price_at duals.prices.items row ≡ penalty
  pub free : (column : ℕ) → mate matches.rows.items column ≡ None → price_at duals.pays.items column ≡ 0
