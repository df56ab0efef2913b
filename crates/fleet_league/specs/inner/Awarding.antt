-- A board during an award.
use Rattle.std.specs.Prelude.{◌≡◌, ◌+◌, ◌≤◌, List, [], ◌++◌, length, map, All, nat_eq}
use Rattle.std.specs.List.{IsDistinct}
use Rattle.ride_model.specs.declared.reply.RequestState.TheVariants.{Waiting as WaitingState}
use Rattle.ride_model.specs.declared.vehicle.Ride.{Ride}
use Rattle.ride_model.specs.History.{fed_commands}
use Rattle.ride_model.specs.Road.{RoadMap}
use Rattle.ride_model.specs.Seating.{BatchCopy}
use Rattle.ride_model.specs.State.{State, AcceptedRequest}
use Rattle.ride_model.specs.Text.{IsSpelledCommand}
use Rattle.ride_model.specs.Vehicle.{ride_ids}
use Rattle.ride_model.specs.declared.limits.TheConstants.{MOST_BATCHES, MOST_REQUESTS}
use Rattle.ride_model.specs.inner.Limits.{most_commands}
use Rattle.board_core.specs.Recorded.{Recorded, state_of}
use Rattle.fleet_league.specs.declared.briefs.Brief.{Brief}
use Rattle.fleet_league.specs.declared.briefs.Win.{Win}
use Rattle.fleet_league.specs.Prices.{prices_by}
use Rattle.fleet_league.specs.inner.Prices.{IsNewRide}
use Rattle.fleet_league.specs.inner.Companies.{IsIdle}
use Rattle.fleet_league.specs.Awards.{won_rides, request_of}
use Rattle.fleet_league.specs.inner.Awards.{IsCertifiedBy, IsCertifiedOver}

-- rides that a state takes as requests, one after another
pub record AreNew (s : State) (rides : List Ride) : Type 0 where
  pub each : All (IsNewRide s) rides
  pub differ : IsDistinct nat_eq (ride_ids rides)
  pub room : length s.requests + length rides ≤ MOST_REQUESTS

-- a board of one feed takes the rides of wins as requests, and an ask after them
pub record MayAsk (board : Recorded) (rides : List Ride) : Type 0 where
  pub one_feed : board.feeds ≡ 1
  pub none_ended : (state_of board).ended ≡ []
  pub few : length (fed_commands 1 board.history) + length rides + 1 ≤ most_commands
  pub new : AreNew (state_of board) rides
  pub spelled : All (λ ride. IsSpelledCommand board.start.settings.log (request_of ride)) rides

-- the requests of wins, as they wait
abbrev pub requests_of : List Win → List AcceptedRequest
requests_of wins = map (λ (win : Win). record { ride = win.ride; state = WaitingState }) wins

-- the state after wins were requested, and a batch of them was asked for
abbrev pub requested_state : State → List Win → State
requested_state s wins = record s { requests = s.requests ++ requests_of wins }

abbrev pub asked_state : State → List Win → State
asked_state s wins = record s { requests = s.requests ++ requests_of wins; asked = s.asked + 1 }

-- the batch of wins
abbrev pub won_batch : State → List Win → BatchCopy
won_batch s wins = record {
  number = s.opened + 1;
  desk = 1;
  time = s.clock;
  settings = s.settings;
  requests = won_rides wins;
  vehicles = s.vehicles;
}

-- a batch of the wins of a brief, which is certified over the prices of the batch's own copies
pub record IsWonBatch (roads : RoadMap) (batch : BatchCopy) (brief : Brief) : Type 0 where
  pub requests_are : batch.requests ≡ won_rides brief.wins
  pub certified : IsCertifiedBy (prices_by roads batch.settings batch.time batch.vehicles (won_rides brief.wins))
      batch.settings.penalty batch.vehicles brief

-- an idle board takes the wins of a brief, of which there are some, as one batch that their prices certify
pub record MayConfirm (board : Recorded) (brief : Brief) : Type 0 where
  pub one_desk : board.desks ≡ 1
  pub idle : IsIdle board
  pub asks : MayAsk board (won_rides brief.wins)
  pub few_asked : (state_of board).asked + 1 ≤ MOST_BATCHES
  pub few_wins : length brief.wins ≤ (state_of board).settings.batch
  pub certified : IsCertifiedOver (state_of board) brief
