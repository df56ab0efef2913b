-- What a company may be awarded of a round.
use Rattle.std.specs.Prelude.{◌≤◌, List, length, All, Contains, IsTrue, nat_eq}
use Rattle.std.specs.List.{IsDistinct}
use Rattle.ride_model.specs.declared.vehicle.Ride.{Ride}
use Rattle.ride_model.specs.Text.{IsSpelledCommand}
use Rattle.ride_model.specs.Vehicle.{ride_ids}
use Rattle.board_core.specs.Recorded.{state_of}
use Rattle.fleet_league.specs.declared.briefs.Brief.{Brief}
use Rattle.fleet_league.specs.Awards.{request_of, won_rides}
use Rattle.fleet_league.specs.inner.Awards.{HasRoomFor, IsCertifiedOver}
use Rattle.fleet_league.specs.inner.Companies.{CompanyState}
use Rattle.fleet_league.specs.inner.Prices.{IsNewRide}

-- rides that a company may quote and be awarded
pub record MayPlay (company : CompanyState) (rides : List Ride) : Type 0 where
  pub is_open : IsTrue company.is_open
  pub each : All (IsNewRide (state_of company.board)) rides
  pub differ : IsDistinct nat_eq (ride_ids rides)
  pub spelled : All (λ (ride : Ride). IsSpelledCommand company.board.start.settings.log (request_of ride)) rides
  pub room : HasRoomFor company.board (length rides)

-- a part of a round over a company's board as it stands: its wins are some of the rides, and are certified over the board's prices
pub record MayWin (company : CompanyState) (rides : List Ride) (brief : Brief) : Type 0 where
  pub may : MayPlay company rides
  pub of_them : All (Contains rides) (won_rides brief.wins)
  pub differ : IsDistinct nat_eq (ride_ids (won_rides brief.wins))
  pub few : length brief.wins ≤ length rides
  pub certified : IsCertifiedOver (state_of company.board) brief
