-- The boards of a league in order: the desk of its requests, and what its companies are asked to play a round.
use Rattle.std.specs.Prelude.{◌≡◌, ℕ, ◌+◌, ◌*◌, ◌≤◌, Bool, true, false, List, [], length, All, Some, None, IsTrue, IsFalse, IsSome, nat_eq}
use Rattle.std.specs.List.{IsDistinct}
use Rattle.ride_model.specs.declared.command.Command.{Command}
use Rattle.ride_model.specs.declared.command.Command.TheVariants.{Request, Cancel}
use Rattle.ride_model.specs.declared.reply.Reply.{Reply}
use Rattle.ride_model.specs.declared.reply.RequestState.TheVariants.{Cancelled, InBatch}
use Rattle.ride_model.specs.declared.vehicle.Ride.{Ride}
use Rattle.ride_model.specs.Batch.{after_opening}
use Rattle.ride_model.specs.History.{fed_commands}
use Rattle.ride_model.specs.Seating.{BatchCopy, vehicle_ids}
use Rattle.ride_model.specs.Settings.{IsSettings}
use Rattle.ride_model.specs.State.{State, AcceptedRequest, accepted_request, request_state}
use Rattle.ride_model.specs.Step.{step}
use Rattle.ride_model.specs.Text.{IsSpelled, IsSpelledCommand}
use Rattle.ride_model.specs.Vehicle.{ride_ids}
use Rattle.ride_model.specs.declared.limits.TheConstants.{LARGEST_BATCH}
use Rattle.model_laws.specs.inner.Requests.{is_of}
use Rattle.board_core.specs.Recorded.{Recorded, state_of}
use Rattle.fleet_league.specs.Awards.{request_of}
use Rattle.fleet_league.specs.inner.Companies.{CompanyState, report_count}
use Rattle.fleet_league.specs.league_session.League.{LeagueState}

-- whether a command is a rider's: a request, or its cancellation
abbrev pub is_riders : Command → Bool
is_riders (Request id from to seats latest longest chairs) = true
is_riders (Cancel id) = true
is_riders _ = false

-- a desk between two lines: of one feed and one desk, on which nobody has ended and no batch is open or is to be opened. Each
-- request that it has accepted has a text
pub record IsDesk (desk : Recorded) : Type 0 where
  pub one_feed : desk.feeds ≡ 1
  pub one_desk : desk.desks ≡ 1
  pub none_ended : (state_of desk).ended ≡ []
  pub none_open : (state_of desk).batches ≡ []
  pub all_opened : (state_of desk).opened ≡ (state_of desk).asked
  pub spelled : All (λ (request : AcceptedRequest). IsSpelledCommand desk.start.settings.log (request_of request.ride)) (state_of desk).requests

-- a desk that has opened a round, after it stood in a state: this batch is open
pub record HasOpened (before : State) (batch : BatchCopy) (desk : Recorded) : Type 0 where
  pub one_feed : desk.feeds ≡ 1
  pub one_desk : desk.desks ≡ 1
  pub none_ended : before.ended ≡ []
  pub none_open : before.batches ≡ []
  pub all_opened : before.opened ≡ before.asked
  pub number_is : batch.number ≡ before.opened + 1
  pub desk_is : batch.desk ≡ 1
  pub few : length batch.requests ≤ LARGEST_BATCH
  pub differ : IsDistinct nat_eq (ride_ids batch.requests)
  pub in_batch : All (λ (ride : Ride). request_state (state_of desk) ride.id ≡ Some (InBatch batch.number)) batch.requests
  pub ids_spelled : All (λ (ride : Ride). IsSpelled ride.id) batch.requests
  pub state_is : state_of desk ≡ after_opening (record before { asked = before.asked + 1 }) batch
  pub spelled : All (λ (request : AcceptedRequest). IsSpelledCommand desk.start.settings.log (request_of request.ride)) before.requests

-- a company's board beside the desk: what it has accepted is closed at the desk, and it was asked for at most as many batches as
-- rounds were made
pub record IsBeside (desk board : State) : Type 0 where
  pub closed : (id : ℕ) → IsSome (accepted_request board id) → request_state desk id ≡ Some Cancelled
  pub few_asked : board.asked ≤ desk.asked

-- an open company of a league, to which at most so many reports were made
pub record IsMember (desk : Recorded) (company : CompanyState) (lines : ℕ) : Type 0 where
  pub is_open : IsTrue company.is_open
  pub same_roads : company.board.start.roads ≡ desk.start.roads
  pub same_settings : company.board.start.settings ≡ desk.start.settings
  pub beside : IsBeside (state_of desk) (state_of company.board)
  pub few_reports : report_count company.board.history ≤ lines

-- what a contract sees of a league
pub record LeagueBoards : Type 0 where
  pub desk : Recorded
  pub first : CompanyState
  pub second : CompanyState

-- the league that they are
abbrev pub league_of : LeagueBoards → LeagueState
league_of boards = record {
  desk = state_of boards.desk;
  first = state_of boards.first.board;
  second = state_of boards.second.board;
}

-- a league after so many lines, each of which gave its desk at most 129 commands
pub record IsLeague (lines : ℕ) (boards : LeagueBoards) : Type 0 where
  pub desk_fits : IsDesk boards.desk
  pub few_commands : length (fed_commands 1 boards.desk.history) ≤ lines * 129
  pub first_fits : IsMember boards.desk boards.first lines
  pub second_fits : IsMember boards.desk boards.second lines

-- a league has given an answer
abbrev pub HasAnswered : LeagueBoards → LeagueBoards → LeagueState × Reply → Reply → Type 0
HasAnswered old new answer reply = answer ≡ (league_of new, reply)

-- what holds of every board: its settings are within their ranges and stay, and its vehicles differ
pub record IsSound (board : Recorded) : Type 0 where
  pub settings_fit : IsSettings board.start.settings
  pub settings_stay : (state_of board).settings ≡ board.start.settings
  pub differ : IsDistinct nat_eq (vehicle_ids (state_of board).vehicles)

-- a company after a report: its board has answered it
pub record IsReported (command : Command) (old new : CompanyState) : Type 0 where
  pub start : new.board.start ≡ old.board.start
  pub is_open : new.is_open ≡ old.is_open
  pub state_is : state_of new.board ≡ (step (state_of old.board) command).state
  pub reports : report_count new.board.history ≡ report_count old.board.history + 1

-- a company after it has played a round of rides: it has accepted no other request, and was asked for at most one batch more
pub record IsPlayed (rides : List Ride) (old new : CompanyState) : Type 0 where
  pub start : new.board.start ≡ old.board.start
  pub is_open : IsTrue new.is_open
  pub reports : report_count new.board.history ≡ report_count old.board.history
  pub few_asked : (state_of new.board).asked ≤ (state_of old.board).asked + 1
  pub others_stay : (id : ℕ) → IsFalse (is_of rides id) → accepted_request (state_of old.board) id ≡ None
      → accepted_request (state_of new.board) id ≡ None
