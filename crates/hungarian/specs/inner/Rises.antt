-- By how much a search raises prices and payments.
use Rattle.std.specs.Prelude.{◌≡◌, ◌≢◌, ℕ, ◌+◌, ◌-◌, ◌<◌, ◌≤◌, ◌==◌, if◌then◌else◌, length, Option, Some, None}
use Rattle.ride_model.specs.declared.limits.TheConstants.{GREATEST_PENALTY}
use Rattle.dual_check.specs.Grid.{price_at}
use Rattle.hungarian.specs.declared.matches.Matches.{Matches}
use Rattle.hungarian.specs.declared.duals.Duals.{Duals}
use Rattle.hungarian.specs.declared.search.Search.{Search}
use Rattle.hungarian.specs.inner.Mates.{mate, AreMates}
use Rattle.hungarian.specs.inner.Labels.{distance_at, rank_at}

-- what is left of a distance past a settled column; nothing for an open one
abbrev pub column_rise : Search → ℕ → ℕ → ℕ
column_rise search far column = if rank_at search column == 0 then 0 else far - distance_at search column

-- a row rises with its column
abbrev pub mate_rise : Search → ℕ → Option ℕ → ℕ
mate_rise search far None = 0
mate_rise search far (Some column) = column_rise search far column

-- a row rises with this column alone
abbrev pub rise_from : Search → ℕ → ℕ → Option ℕ → ℕ
rise_from search far column None = 0
rise_from search far column (Some other) = if other == column then column_rise search far column else 0

-- what one column pays, and the price of its row, were raised
pub record IsColumnRaised (matches : Matches) (search : Search) (far column : ℕ) (old new : Duals) : Type 0 where
  pub prices_each : length new.prices.items ≡ length old.prices.items
  pub pays_each : length new.pays.items ≡ length old.pays.items
  pub pay : price_at new.pays.items column ≡ price_at old.pays.items column + column_rise search far column
  pub pays_left : (other : ℕ) → other ≢ column → price_at new.pays.items other ≡ price_at old.pays.items other
  pub prices : (row : ℕ) → price_at new.prices.items row
      ≡ price_at old.prices.items row + rise_from search far column (mate matches.columns.items row)

-- prices and payments were raised, from a root on
pub record IsRaised (matches : Matches) (search : Search) (root far : ℕ) (old new : Duals) : Type 0 where
  pub prices_each : length new.prices.items ≡ length old.prices.items
  pub pays_each : length new.pays.items ≡ length old.pays.items
  pub pays : (column : ℕ) → column < length old.pays.items
      → price_at new.pays.items column ≡ price_at old.pays.items column + column_rise search far column
  pub root_price : price_at new.prices.items root ≡ price_at old.prices.items root + far
  pub prices : (row : ℕ) → row ≢ root → row < length old.prices.items
      → price_at new.prices.items row ≡ price_at old.prices.items row + mate_rise search far (mate matches.columns.items row)

-- what a column pays and its row's price can be raised: no number is large, and a settled column is not beyond the distance
pub record IsRaisable (matches : Matches) (search : Search) (far column : ℕ) (old : Duals) : Type 0 where
  pub mates : AreMates matches.columns.items matches.rows.items
  pub column_in : column < length old.pays.items
  pub rows_each : length matches.columns.items ≡ length old.prices.items
  pub columns_each : length matches.rows.items ≡ length old.pays.items
  pub ranks_each : length search.ranks.items ≡ length old.pays.items
  pub distances_each : length search.distances.items ≡ length old.pays.items
  pub near : 0 < rank_at search column → distance_at search column ≤ far
  pub far_limit : far ≤ GREATEST_PENALTY
  pub pay_limit : price_at old.pays.items column ≤ GREATEST_PENALTY
  pub price_limit : (row : ℕ) → mate matches.columns.items row ≡ Some column → price_at old.prices.items row ≤ GREATEST_PENALTY

-- prices and payments that can be raised: no number is large, and no settled column is beyond the distance
pub record AreRaisable (matches : Matches) (search : Search) (root far : ℕ) (old : Duals) : Type 0 where
  pub mates : AreMates matches.columns.items matches.rows.items
  pub bare : mate matches.columns.items root ≡ None
  pub root_in : root < length old.prices.items
  pub rows_each : length matches.columns.items ≡ length old.prices.items
  pub columns_each : length matches.rows.items ≡ length old.pays.items
  pub ranks_each : length search.ranks.items ≡ length old.pays.items
  pub distances_each : length search.distances.items ≡ length old.pays.items
  pub near : (column : ℕ) → 0 < rank_at search column → distance_at search column ≤ far
  pub far_limit : far ≤ GREATEST_PENALTY
  pub prices_limit : (row : ℕ) → price_at old.prices.items row ≤ GREATEST_PENALTY
  pub pays_limit : (column : ℕ) → price_at old.pays.items column ≤ GREATEST_PENALTY
