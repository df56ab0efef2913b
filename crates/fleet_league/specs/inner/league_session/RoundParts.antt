-- What only lemmas and lower contracts use beside RoundParts.antt.
use Rattle.std.specs.Prelude.{ℕ, if◌then◌else◌, List, slice_get, Option, is_some, option_and_then}
use Rattle.std.specs.List.{zip}
use Rattle.ride_model.specs.declared.entry.Outcome.{Outcome}
use Rattle.ride_model.specs.declared.entry.Outcome.TheVariants.{Confirmed, Away}
use Rattle.ride_model.specs.declared.vehicle.Ride.{Ride}
use Rattle.dual_check.specs.declared.paired.Paired.{Paired}
use Rattle.fleet_league.specs.declared.league_session.rows.RoundColumn.{RoundColumn}
use Rattle.fleet_league.specs.declared.league_session.rows.RoundRow.{RoundRow}

-- a ride with the column of its place, if it has one, and its price
abbrev pub row_of : List RoundColumn → (Ride × Option ℕ) × ℕ → RoundRow
row_of columns row = record { ride = row.0.0; column = option_and_then (slice_get columns) row.0.1; price = row.1 }

-- the columns of a round, with what they pay
abbrev pub paid_columns : List RoundColumn → Paired → List (RoundColumn × ℕ)
paid_columns columns round = zip columns round.pays

-- a vehicle of the company of a number, with its version
abbrev pub column_of_plan : ℕ → ℕ × ℕ → RoundColumn
column_of_plan company plan = record { company = company; vehicle = plan.0; version = plan.1 }

-- a row's request with what becomes of it
abbrev pub outcome_of : RoundRow → ℕ × Outcome
outcome_of row = (row.ride.id, if is_some row.column then Confirmed else Away)

-- a row's request with its price
abbrev pub price_of : RoundRow → ℕ × ℕ
price_of row = (row.ride.id, row.price)
