-- What only lemmas and lower contracts use beside League.antt.
use Rattle.std.specs.Prelude.{ℕ, List}
use Rattle.ride_model.specs.declared.vehicle.Ride.{Ride}
use Rattle.ride_model.specs.State.{State}
use Rattle.dual_check.specs.declared.paired.Paired.{Paired}
use Rattle.dual_check.specs.Grid.{pairing_cost}
use Rattle.fleet_league.specs.declared.briefs.Brief.{Brief}
use Rattle.fleet_league.specs.Awards.{won_columns, won_rides}
use Rattle.board_core.specs.Recorded.{state_of}
use Rattle.fleet_league.specs.inner.Companies.{CompanyState}
use Rattle.fleet_league.specs.Prices.{prices_of}
use Rattle.fleet_league.specs.Round.{IsRound, company_prices}
use Rattle.fleet_league.specs.league_session.RoundParts.{brief_of}
use Rattle.fleet_league.specs.league_session.League.{quotes_of, round_rows, round_columns}

-- a round of rides between two companies, as their boards stand, and the part of the company of a number
abbrev pub IsRoundBetween : CompanyState → CompanyState → List Ride → ℕ → Paired → Type 0
IsRoundBetween first second rides penalty round =
    IsRound penalty (company_prices (quotes_of (state_of first.board) (state_of second.board) rides)) round

abbrev pub part_between : ℕ → CompanyState → CompanyState → List Ride → Paired → Brief
part_between company first second rides round =
    let quotes = quotes_of (state_of first.board) (state_of second.board) rides in
    brief_of company (round_rows quotes rides round) (round_columns quotes round)

-- what the commit of a company's part costs
abbrev pub commit_cost : State → Brief → ℕ
commit_cost s brief = pairing_cost (prices_of s (won_rides brief.wins)) s.settings.penalty (won_columns s.vehicles brief.wins)
