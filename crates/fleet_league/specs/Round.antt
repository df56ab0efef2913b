-- Rounds of a league: the union of several companies' prices, and a least pairing of it.
use Rattle.std.specs.Prelude.{◌≡◌, ℕ, ◌+◌, ◌<◌, List, map, take, slice_get, sum_by, All, Some}
use Rattle.dual_check.specs.Cells.{GridCells, IsGrid, cell_at}
use Rattle.dual_check.specs.Grid.{IsLeastPairing, CertifiesPairing}
use Rattle.dual_check.specs.declared.paired.Paired.{Paired}
use Rattle.fleet_league.specs.declared.quotes.Quote.{Quote}

-- the prices of all companies
abbrev pub company_prices : List Quote → List GridCells
company_prices quotes = map (λ (quote : Quote). quote.prices) quotes

-- a company's prices stand in a grid from a column on
pub record StandsFrom (first : ℕ) (own grid : GridCells) : Type 0 where
  pub cells_same : (row column : ℕ) → row < own.rows → column < own.columns → cell_at grid row (first + column) ≡ cell_at own row column

-- the union grid: the rides as rows, and as columns the vehicles of all companies, by company and then in fleet order
pub record IsUnion (companies : List GridCells) (grid : GridCells) : Type 0 where
  pub fits : IsGrid grid
  pub rows_same : All (λ (own : GridCells). own.rows ≡ grid.rows) companies
  pub columns_all : grid.columns ≡ sum_by (λ (own : GridCells). own.columns) companies
  pub stands : (k : ℕ) (own : GridCells) → slice_get companies k ≡ Some own
      → StandsFrom (sum_by (λ (before : GridCells). before.columns) (take k companies)) own grid

-- a round: a least pairing of the union grid, with prices that certify it
pub record IsRound (penalty : ℕ) (companies : List GridCells) (round : Paired) : Type 0 where
  pub grid : GridCells
  pub union : IsUnion companies grid
  pub least : IsLeastPairing grid penalty round.columns
  pub certified : CertifiesPairing grid penalty round.columns round.prices round.pays
