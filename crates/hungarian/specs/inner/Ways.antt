-- How a row changes the ways to columns, and which open column is the nearest.
use Rattle.std.specs.Prelude.{◌≡◌, ℕ, ◌+◌, ◌<◌, ◌≤◌, ◌^◌, ◌==◌, ◌&&◌, ◌⊎◌, nat_lt, if◌then◌else◌, List, slice_index, Option, Some, MatchOption, IfSome}
use Rattle.ride_model.specs.declared.limits.TheConstants.{GREATEST_PENALTY}
use Rattle.hungarian.specs.declared.relaxing.Reach.{Reach}
use Rattle.hungarian.specs.declared.relaxing.Nearest.{Nearest}

-- the way to a column by a reached row is this long: the row's distance, the amount and the payment, less the price
pub record IsBy (reach : Reach) (cell : Option ℕ) (pay distance : ℕ) : Type 0 where
  pub amount : ℕ
  pub cell_is : cell ≡ Some amount
  pub tight : distance + reach.price ≡ reach.distance + amount + pay

-- the way that a column had, by a distance and a source, was shortened by a reached row where that is shorter
pub record IsShortened (reach : Reach) (cell : Option ℕ) (pay had had_source distance source : ℕ) : Type 0 where
  pub no_longer : distance ≤ had
  pub lower : (amount : ℕ) → cell ≡ Some amount → distance + reach.price ≤ reach.distance + amount + pay
  pub way : ((distance ≡ had) × (source ≡ had_source))
      ⊎ ((distance < had) × (source ≡ reach.row) × IsBy reach cell pay distance)

-- a way by a reached row can be computed: its numbers are not large, and the price is covered
pub record IsRelaxable (reach : Reach) (cell : Option ℕ) (pay : ℕ) : Type 0 where
  pub distance_limit : reach.distance ≤ GREATEST_PENALTY
  pub pay_limit : pay ≤ GREATEST_PENALTY
  pub amount_limit : IfSome cell (λ amount. amount < 2 ^ 42)
  pub covered : IfSome cell (λ amount. reach.price ≤ amount + pay)

-- the distance of a column by a reached row; what it had where there is no amount
abbrev pub IsDistanceBy : Reach → Option ℕ → ℕ → ℕ → ℕ → Type 0
IsDistanceBy reach cell pay had distance =
    MatchOption cell (distance ≡ had) (λ amount. distance + reach.price ≡ reach.distance + amount + pay)

-- the nearest open column after another column, of this distance and rank
abbrev pub nearest_of : Nearest → ℕ → ℕ → ℕ → Nearest
nearest_of nearest column distance rank =
    if nat_lt distance nearest.distance && (rank == 0) then record { distance = distance; column = Some column } else nearest

-- the nearest open column of the first columns that is nearer than a limit
pub record IsNearest (ranks distances : List ℕ) (count limit : ℕ) (nearest : Nearest) : Type 0 where
  pub least : (column : ℕ) → column < count → slice_index ranks column ≡ 0 → nearest.distance ≤ slice_index distances column
  pub found : MatchOption nearest.column (nearest.distance ≡ limit) (λ column.
      (column < count) × (slice_index ranks column ≡ 0) × (nearest.distance ≡ slice_index distances column)
      × (nearest.distance < limit))
