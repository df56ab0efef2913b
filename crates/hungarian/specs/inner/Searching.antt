-- A search between two steps.
use Rattle.std.specs.Prelude.{◌≡◌, ℕ, ◌<◌, ◌≤◌, Some}
use Rattle.dual_check.specs.Cells.{GridCells}
use Rattle.dual_check.specs.Grid.{price_at}
use Rattle.hungarian.specs.declared.matches.Matches.{Matches}
use Rattle.hungarian.specs.declared.duals.Duals.{Duals}
use Rattle.hungarian.specs.declared.relaxing.Reach.{Reach}
use Rattle.hungarian.specs.declared.search.Search.{Search}
use Rattle.hungarian.specs.declared.search.Path.{Path}
use Rattle.hungarian.specs.declared.search.Exit.TheVariants.{Row}
use Rattle.hungarian.specs.inner.Mates.{mate}
use Rattle.hungarian.specs.inner.Labels.{rank_at, IsReached, IsSearch, IsLimit, IsLeaving}

-- A row was reached and is to be relaxed next; every settled column has a row; and of the paths that leave a reached row
-- out, the shortest is known.
pub record IsSearching (grid : GridCells) (penalty : ℕ) (matches : Matches) (duals : Duals) (root : ℕ) (reach : Reach)
    (leaving : Path) (search : Search) : Type 0 where
  pub state : IsSearch grid penalty matches duals root reach.row reach.distance search
  pub reached : (step : ℕ) × IsReached matches search root reach.row reach.distance step
  pub price_is : reach.price ≡ price_at duals.prices.items reach.row
  pub mated : (column : ℕ) → 0 < rank_at search column → (row : ℕ) × (mate matches.rows.items column ≡ Some row)
  pub limit : IsLimit penalty matches duals search root leaving.distance
  pub leaves : (row : ℕ) × (leaving.exit ≡ Row row) × IsLeaving penalty matches duals search root leaving.distance row
  pub sooner : reach.distance ≤ leaving.distance
  pub below : leaving.distance ≤ penalty
