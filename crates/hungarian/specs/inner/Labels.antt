-- The state of a search for a shortest augmenting path.
use Rattle.std.specs.Prelude.{◌≡◌, ◌≢◌, ℕ, ◌+◌, ◌-◌, ◌<◌, ◌≤◌, ◌==◌, ◌⊎◌, nat_lt, if◌then◌else◌, length, slice_index, count_by, Option, Some, None, MatchOption}
use Rattle.dual_check.specs.Cells.{GridCells, cell_at}
use Rattle.dual_check.specs.Grid.{price_at}
use Rattle.hungarian.specs.declared.matches.Matches.{Matches}
use Rattle.hungarian.specs.declared.duals.Duals.{Duals}
use Rattle.hungarian.specs.declared.relaxing.Reach.{Reach}
use Rattle.hungarian.specs.declared.search.Search.{Search}
use Rattle.hungarian.specs.declared.search.Path.{Path}
use Rattle.hungarian.specs.declared.search.Exit.{Exit}
use Rattle.hungarian.specs.declared.search.Exit.TheVariants.{Column, Row}
use Rattle.hungarian.specs.inner.Mates.{mate}

-- how far a column is from the root
abbrev pub distance_at : Search → ℕ → ℕ
distance_at search column = slice_index search.distances.items column

-- the row from which a column was reached
abbrev pub source_at : Search → ℕ → ℕ
source_at search column = slice_index search.sources.items column

-- the step at which a column was settled, 0 while it is open
abbrev pub rank_at : Search → ℕ → ℕ
rank_at search column = slice_index search.ranks.items column

-- a search reached a row at a distance and a step: it is the root, or the row of a settled column
abbrev pub IsReached : Matches → Search → ℕ → ℕ → ℕ → ℕ → Type 0
IsReached matches search root row distance step =
    ((row ≡ root) × (distance ≡ 0) × (step ≡ 0))
    ⊎ ((column : ℕ) × (mate matches.columns.items row ≡ Some column) × (0 < rank_at search column)
    × (distance ≡ distance_at search column) × (step ≡ rank_at search column))

-- a column was reached from a row that was reached before it, over an amount that makes up the distance between them
pub record IsTraced (grid : GridCells) (matches : Matches) (duals : Duals) (search : Search) (root column : ℕ) : Type 0 where
  pub distance : ℕ
  pub step : ℕ
  pub amount : ℕ
  pub reached : IsReached matches search root (source_at search column) distance step
  pub cell_is : cell_at grid (source_at search column) column ≡ Some amount
  pub tight : distance_at search column + price_at duals.prices.items (source_at search column)
      ≡ distance + amount + price_at duals.pays.items column
  pub before : 0 < rank_at search column → step < rank_at search column

-- the lists of a search have an item for each column, and each settled column was counted
pub record IsSized (columns : ℕ) (search : Search) : Type 0 where
  pub distances_each : length search.distances.items ≡ columns
  pub sources_each : length search.sources.items ≡ columns
  pub ranks_each : length search.ranks.items ≡ columns
  pub counted : search.steps + count_by (λ rank. rank == 0) search.ranks.items ≡ columns

-- the nearest open column that is nearer than a limit, if there is one
abbrev pub IsNext : Search → ℕ → ℕ → Option ℕ → Type 0
IsNext search columns limit next = MatchOption next
    ((column : ℕ) → column < columns → rank_at search column ≡ 0 → limit ≤ distance_at search column)
    (λ column. (column < columns) × (rank_at search column ≡ 0) × (distance_at search column < limit)
    × ((other : ℕ) → other < columns → rank_at search other ≡ 0 → distance_at search column ≤ distance_at search other))

-- A search from a root: settled columns are within a distance and open ones beyond it, and each column that is nearer
-- than the penalty was reached from a row. From no row but one, which is yet to be relaxed, is there a shorter way to a
-- column.
pub record IsSearch (grid : GridCells) (penalty : ℕ) (matches : Matches) (duals : Duals) (root unrelaxed far : ℕ)
    (search : Search) : Type 0 where
  pub sized : IsSized grid.columns search
  pub ranked : (column : ℕ) → rank_at search column ≤ search.steps
  pub within : (column : ℕ) → distance_at search column ≤ penalty
  pub settled : (column : ℕ) → 0 < rank_at search column → distance_at search column < penalty
  pub near : (column : ℕ) → 0 < rank_at search column → distance_at search column ≤ far
  pub beyond : (column : ℕ) → column < grid.columns → rank_at search column ≡ 0 → far ≤ distance_at search column
  pub traced : (column : ℕ) → column < grid.columns → distance_at search column < penalty
      → IsTraced grid matches duals search root column
  pub lower : (row column amount distance step : ℕ) → row ≢ unrelaxed → IsReached matches search root row distance step
      → column < grid.columns → cell_at grid row column ≡ Some amount
      → distance_at search column + price_at duals.prices.items row ≤ distance + amount + price_at duals.pays.items column

-- no reached row is left out by a path shorter than this distance
abbrev pub IsLimit : ℕ → Matches → Duals → Search → ℕ → ℕ → Type 0
IsLimit penalty matches duals search root far =
    (row distance step : ℕ) → IsReached matches search root row distance step
    → far + price_at duals.prices.items row ≤ distance + penalty

-- a path of this length leaves a row out
pub record IsLeaving (penalty : ℕ) (matches : Matches) (duals : Duals) (search : Search) (root far row : ℕ) : Type 0 where
  pub distance : ℕ
  pub step : ℕ
  pub reached : IsReached matches search root row distance step
  pub length_is : far + price_at duals.prices.items row ≡ distance + penalty

-- the shorter of a path and the one that leaves out a reached row
abbrev pub sooner_path : Path → Reach → ℕ → Path
sooner_path path reach penalty =
    if nat_lt (reach.distance + (penalty - reach.price)) path.distance
    then record { distance = reach.distance + (penalty - reach.price); exit = Row reach.row } else path

-- where a path of this length ends: at a free column that was settled, or at a row that it leaves out
abbrev pub IsExit : ℕ → Matches → Duals → Search → ℕ → ℕ → Exit → Type 0
IsExit penalty matches duals search root far (Column column) =
    (0 < rank_at search column) × (mate matches.rows.items column ≡ None)
IsExit penalty matches duals search root far (Row row) = IsLeaving penalty matches duals search root far row

-- a search ended with a shortest path
pub record IsPath (grid : GridCells) (penalty : ℕ) (matches : Matches) (duals : Duals) (root : ℕ) (search : Search)
    (path : Path) : Type 0 where
  pub over : IsSearch grid penalty matches duals root grid.rows path.distance search
  pub limit : IsLimit penalty matches duals search root path.distance
  pub free_last : (column : ℕ) → 0 < rank_at search column → mate matches.rows.items column ≡ None
      → distance_at search column ≡ path.distance
  pub exits : IsExit penalty matches duals search root path.distance path.exit
