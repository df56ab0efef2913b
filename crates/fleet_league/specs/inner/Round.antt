-- What only lemmas and lower contracts use beside Round.antt.
use Rattle.std.specs.Prelude.{ℕ, ◌≤◌, List, take, sum_by}
use Rattle.ride_model.specs.declared.limits.TheConstants.{MOST_VEHICLES}
use Rattle.dual_check.specs.Cells.{GridCells, IsGrid}

-- how many vehicles the companies before one have
abbrev pub columns_before : List GridCells → ℕ → ℕ
columns_before companies k = sum_by (λ (own : GridCells). own.columns) (take k companies)

-- the prices of a company's vehicles, a row for each ride: at most 128 rides and 1,000 vehicles, prices below 2^42
pub record IsPriced (prices : GridCells) : Type 0 where
  pub grid : IsGrid prices
  pub few_vehicles : prices.columns ≤ MOST_VEHICLES
