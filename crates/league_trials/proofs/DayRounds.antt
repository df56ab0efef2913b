-- The parts of a round between two companies of a day may be won.
use Rattle.std.proofs.Common.{◌≡◌, List, refl, sym, ap, subst}
use Rattle.ride_model.specs.declared.settings.Settings.{Settings}
use Rattle.ride_model.specs.declared.vehicle.Ride.{Ride}
use Rattle.dual_check.specs.Grid.{pairing_cost}
use Rattle.board_core.specs.Recorded.{state_of}
use Rattle.city_maker.specs.Fleets.{default_settings}
use Rattle.fleet_league.specs.declared.briefs.Brief.{Brief}
use Rattle.fleet_league.specs.declared.quotes.Quote.{Quote}
use Rattle.fleet_league.specs.inner.Companies.{CompanyState}
use Rattle.fleet_league.specs.league_session.League.{IsRoundOf, quotes_of, round_columns, round_rows}
use Rattle.fleet_league.specs.inner.Winning.{MayPlay, MayWin}
use Rattle.fleet_league.specs.inner.league_session.LeagueBoards.{IsSound}
use Rattle.fleet_league.specs.league_session.RoundParts.{sheet_of}
use Rattle.fleet_league.proofs.league_session.PlayedRounds.{AreMet, first-wins, second-wins}
use Rattle.league_trials.specs.Sides.{AreParts}

-- companies of the same settings play with their penalty
pub companies-meet : (first second : CompanyState) → IsSound first.board → IsSound second.board
    → first.board.start.settings ≡ default_settings → second.board.start.settings ≡ default_settings → AreMet first second 3600
companies-meet first second first_sound second_sound first_settings second_settings = record {
  first_sound = first_sound;
  second_sound = second_sound;
  first_penalty = ap (λ (s : Settings). s.penalty) (sym first_settings);
  second_penalty = ap (λ (s : Settings). s.penalty) (sym second_settings);
}

module _ (first second : CompanyState) (rides : List Ride) (quotes : List Quote) (first_part second_part : Brief)
    (met : AreMet first second 3600) (quotes_are : quotes ≡ quotes_of (state_of first.board) (state_of second.board) rides)
    (are : AreParts quotes rides first_part second_part) where
  parts : AreParts (quotes_of (state_of first.board) (state_of second.board) rides) rides first_part second_part
  parts = subst (λ (qs : List Quote). AreParts qs rides first_part second_part) quotes_are are

  round_of : IsRoundOf 3600 (quotes_of (state_of first.board) (state_of second.board) rides) rides
      (sheet_of (pairing_cost parts.is_round.grid 3600 parts.round.columns)
      (round_rows (quotes_of (state_of first.board) (state_of second.board) rides) rides parts.round)
      (round_columns (quotes_of (state_of first.board) (state_of second.board) rides) parts.round)) first_part second_part
  round_of = record {
    round = parts.round;
    is_round = parts.is_round;
    sheet_is = refl;
    first_is = parts.first_is;
    second_is = parts.second_is;
  }

  pub first-may : MayPlay first rides → MayWin first rides first_part
  first-may = first-wins first second rides 3600 _ first_part second_part met round_of

  pub second-may : MayPlay second rides → MayWin second rides second_part
  second-may = second-wins first second rides 3600 _ first_part second_part met round_of
