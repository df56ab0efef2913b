-- What a round gives: the columns of its union with the companies' vehicles, what is told of it, and each company's part.
use Rattle.std.specs.Prelude.{ℕ, ◌==◌, if◌then◌else◌, nat_lt, List, map, slice_get, Option, Some, None, is_some, option_and_then, option_map}
use Rattle.std.specs.List.{enumerate_from, filter_map, flat_map, zip}
use Rattle.ride_model.specs.declared.entry.Outcome.TheVariants.{Confirmed, Away}
use Rattle.ride_model.specs.declared.vehicle.Ride.{Ride}
use Rattle.dual_check.specs.declared.paired.Paired.{Paired}
use Rattle.hungarian.specs.Seats.{pay_at}
use Rattle.fleet_league.specs.declared.briefs.Brief.{Brief}
use Rattle.fleet_league.specs.declared.briefs.Win.{Win}
use Rattle.fleet_league.specs.declared.league_session.rows.RoundColumn.{RoundColumn}
use Rattle.fleet_league.specs.declared.league_session.rows.RoundRow.{RoundRow}
use Rattle.fleet_league.specs.declared.league_session.sheets.RoundAward.{RoundAward}
use Rattle.fleet_league.specs.declared.league_session.sheets.RoundPay.{RoundPay}
use Rattle.fleet_league.specs.declared.league_session.sheets.RoundSheet.{RoundSheet}
use Rattle.fleet_league.specs.declared.quotes.Quote.{Quote}

-- the columns of the union of quotes, each a vehicle with its version: by company, numbered from 1, and then in fleet order
abbrev pub union_columns : List Quote → List RoundColumn
union_columns quotes = flat_map (λ (placed : ℕ × Quote). map {B = RoundColumn} (λ (plan : ℕ × ℕ).
    record { company = placed.0; vehicle = plan.0; version = plan.1 }) placed.1.plans) (enumerate_from 1 quotes)

-- the rides of a round, with the columns that they are paired with and their prices
abbrev pub rows_of : List RoundColumn → List Ride → Paired → List RoundRow
rows_of columns rides round = map (λ (row : (Ride × Option ℕ) × ℕ).
    record { ride = row.0.0; column = option_and_then (slice_get columns) row.0.1; price = row.1 }) (zip (zip rides round.columns) round.prices)

-- a row's award, if it has a column
abbrev pub award_of : RoundRow → Option RoundAward
award_of row = option_map (λ (column : RoundColumn).
    record { request = row.ride.id; company = column.company; vehicle = column.vehicle; version = column.version }) row.column

-- what a column pays, where it is above 0
abbrev pub pay_of : RoundColumn × ℕ → Option RoundPay
pay_of paid = if nat_lt 0 paid.1 then Some (record { company = paid.0.company; vehicle = paid.0.vehicle; amount = paid.1 }) else None

-- what is told of a round of a cost: of each request its award, its price and what becomes of it
abbrev pub sheet_of : ℕ → List RoundRow → List (RoundColumn × ℕ) → RoundSheet
sheet_of cost rows paid = record {
  cost = cost;
  awards = filter_map award_of rows;
  prices = map (λ (row : RoundRow). (row.ride.id, row.price)) rows;
  pays = filter_map pay_of paid;
  outcomes = map (λ (row : RoundRow). (row.ride.id, if is_some row.column then Confirmed else Away)) rows;
}

-- a column of the company of a number
abbrev pub column_in : ℕ → RoundColumn → Option RoundColumn
column_in company column = if column.company == company then Some column else None

-- a company's win of a row
abbrev pub win_of : ℕ → RoundRow → Option Win
win_of company row = option_map (λ (column : RoundColumn).
    record { ride = row.ride; vehicle = column.vehicle; price = row.price }) (option_and_then (column_in company) row.column)

-- what a company's vehicle pays, where it is above 0
abbrev pub own_pay_of : ℕ → RoundColumn × ℕ → Option (ℕ × ℕ)
own_pay_of company paid = option_and_then (λ (column : RoundColumn). pay_at column.vehicle paid.1) (column_in company paid.0)

-- a company's part of a round: its wins in the order of requests, and what its vehicles pay
abbrev pub brief_of : ℕ → List RoundRow → List (RoundColumn × ℕ) → Brief
brief_of company rows paid = record { wins = filter_map (win_of company) rows; pays = filter_map (own_pay_of company) paid }
