-- Grids of the costs in a table's cells.
use Rattle.std.specs.Prelude.{◌≡◌, ℕ, ◌<◌, Option, option_map}
use Rattle.ride_model.specs.declared.offer.Offer.{Offer}
use Rattle.batch_commit.specs.inner.Table.{Table, cell_at as offer_at}
use Rattle.dual_check.specs.Cells.{GridCells, cell_at}

-- the cost in a table's cell, if it has an offer
abbrev pub cost_of : Option Offer → Option ℕ
cost_of cell = option_map (λ (offer : Offer). offer.cost) cell

-- a grid of a table's size has its costs
pub record HasCosts (table : Table) (grid : GridCells) : Type 0 where
  pub rows_are : grid.rows ≡ table.rows
  pub columns_are : grid.columns ≡ table.columns
  pub cells_are : (row column : ℕ) → row < table.rows → column < table.columns
      → cell_at grid row column ≡ cost_of (offer_at table row column)
