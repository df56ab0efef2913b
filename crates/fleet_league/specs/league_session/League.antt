-- A league of two companies, and what each line of its feed makes of it.
use Rattle.std.specs.Prelude.{◌≡◌, ◌≢◌, ℕ, ◌+◌, ◌==◌, nat_lt, if◌then◌else◌, Bool, false, List, [], ◌∷◌, ◌++◌, take, is_some, IsTrue, IsFalse}
use Rattle.std.specs.List.{zip}
use Rattle.ride_model.specs.declared.command.Command.{Command}
use Rattle.ride_model.specs.declared.command.Command.TheVariants.{Request, Cancel, Clock, Ask}
use Rattle.ride_model.specs.declared.entry.Entry.{Entry}
use Rattle.ride_model.specs.declared.reply.Reply.{Reply}
use Rattle.ride_model.specs.declared.reply.Reply.TheVariants.{Noted, Refused}
use Rattle.ride_model.specs.declared.reply.RequestState.TheVariants.{Cancelled}
use Rattle.ride_model.specs.declared.settings.Settings.{Settings}
use Rattle.ride_model.specs.declared.vehicle.Ride.{Ride}
use Rattle.ride_model.specs.declared.vehicle.Vehicle.{Vehicle}
use Rattle.ride_model.specs.Batch.{waiting_rides, with_request_states}
use Rattle.ride_model.specs.Legal.{IsLegal, replay}
use Rattle.ride_model.specs.Road.{RoadMap}
use Rattle.ride_model.specs.State.{State, request_state, start_state}
use Rattle.ride_model.specs.Step.{step}
use Rattle.ride_model.specs.declared.limits.TheConstants.{MOST_BATCHES}
use Rattle.ride_model.specs.declared.refusals.TheConstants.{BATCHES_FULL, UNKNOWN_COMPANY}
use Rattle.dual_check.specs.declared.paired.Paired.{Paired}
use Rattle.dual_check.specs.Grid.{pairing_cost}
use Rattle.fleet_league.specs.declared.briefs.Brief.{Brief}
use Rattle.fleet_league.specs.declared.league_session.lines.FeedLine.{FeedLine}
use Rattle.fleet_league.specs.declared.league_session.lines.FeedLine.TheVariants.{League, Company}
use Rattle.fleet_league.specs.declared.league_session.rows.RoundColumn.{RoundColumn}
use Rattle.fleet_league.specs.declared.league_session.rows.RoundRow.{RoundRow}
use Rattle.fleet_league.specs.declared.league_session.sheets.RoundSheet.{RoundSheet}
use Rattle.fleet_league.specs.declared.league_session.sheets.Told.{Told}
use Rattle.fleet_league.specs.declared.league_session.sheets.Told.TheVariants.{Answer, Round}
use Rattle.fleet_league.specs.declared.quotes.Quote.{Quote}
use Rattle.fleet_league.specs.Awards.{AddsAward}
use Rattle.fleet_league.specs.league_session.LeagueTexts.{told_line}
use Rattle.fleet_league.specs.Prices.{quote_of}
use Rattle.fleet_league.specs.Round.{IsRound, company_prices}
use Rattle.fleet_league.specs.league_session.RoundParts.{brief_of, rows_of, sheet_of, union_columns}

-- a league: the desk that judges its requests, which has no vehicles and is asked for each round, and the companies' boards. A
-- request waits where it waits at the desk, and is with a company whose board has accepted it. A round closes its requests at the
-- desk: one that is neither waiting nor with a company is away or cancelled
pub record LeagueState : Type 0 where
  pub desk : State
  pub first : State
  pub second : State

-- a league at its start: both companies have the same settings
abbrev pub league_start : RoadMap → Settings → List Vehicle → List Vehicle → LeagueState
league_start roads settings first second = record {
  desk = start_state roads settings [];
  first = start_state roads settings first;
  second = start_state roads settings second;
}

-- a league after one of its boards has taken a command, and the board's reply
abbrev pub answered_by : (State → LeagueState) → State → Command → LeagueState × Reply
answered_by league board command = (league (step board command).state, (step board command).reply)

-- the league after a line that makes no round, and the reply to it: a request goes to the desk, a cancellation to the company whose
-- board has accepted the request, if there is one, the clock to every company, and a report to the company of its number
abbrev pub league_answer : LeagueState → FeedLine → LeagueState × Reply
league_answer s (League (Request id from to seats latest longest chairs)) =
    answered_by (λ board. record s { desk = board }) s.desk (Request id from to seats latest longest chairs)
league_answer s (League (Cancel id)) =
    if is_some (request_state s.first id) then answered_by (λ board. record s { first = board }) s.first (Cancel id)
    else if is_some (request_state s.second id) then answered_by (λ board. record s { second = board }) s.second (Cancel id)
    else answered_by (λ board. record s { desk = board }) s.desk (Cancel id)
league_answer s (League (Clock time)) =
    answered_by (λ board. record s { first = board; second = (step s.second (Clock time)).state }) s.first (Clock time)
league_answer s (League Ask) = (s, Refused BATCHES_FULL)
league_answer s (League _) = (s, Noted)
league_answer s (Company company command) = if company == 1 then answered_by (λ board. record s { first = board }) s.first command
    else if company == 2 then answered_by (λ board. record s { second = board }) s.second command
    else (s, Refused UNKNOWN_COMPANY)

-- whether a line makes a round: a batch, where fewer than 2,000 rounds were made
abbrev pub makes_round : LeagueState → FeedLine → Bool
makes_round s (League Ask) = nat_lt s.desk.asked MOST_BATCHES
makes_round s _ = false

-- what two companies' boards quote for rides, as they stand
abbrev pub quotes_of : State → State → List Ride → List Quote
quotes_of first second rides = quote_of first rides ∷ quote_of second rides ∷ []

-- the rows of a round of rides over quotes, and its columns with what they pay
abbrev pub round_rows : List Quote → List Ride → Paired → List RoundRow
round_rows quotes rides round = rows_of (union_columns quotes) rides round

abbrev pub round_columns : List Quote → Paired → List (RoundColumn × ℕ)
round_columns quotes round = zip (union_columns quotes) round.pays

-- the desk after a round of rides
abbrev pub after_round : State → List Ride → State
after_round desk rides = record (with_request_states Cancelled rides desk) { asked = desk.asked + 1; opened = desk.opened + 1 }

-- a board after a confirmed award of a brief: as it was, where nothing was won, and else after entries that are legal at it
pub record IsAwarded (brief : Brief) (old new : State) : Type 0 where
  pub none_won : brief.wins ≡ [] → new ≡ old
  pub won : brief.wins ≢ [] → (entries : List Entry) × AddsAward old brief [] entries × IsLegal 1 1 old entries × (new ≡ replay old entries)

-- a round of rides over quotes, of which this is told, and which gives the companies these parts
pub record IsRoundOf (penalty : ℕ) (quotes : List Quote) (rides : List Ride) (sheet : RoundSheet) (first second : Brief) : Type 0 where
  pub round : Paired
  pub is_round : IsRound penalty (company_prices quotes) round
  pub sheet_is : sheet ≡ sheet_of (pairing_cost is_round.grid penalty round.columns) (round_rows quotes rides round) (round_columns quotes round)
  pub first_is : first ≡ brief_of 1 (round_rows quotes rides round) (round_columns quotes round)
  pub second_is : second ≡ brief_of 2 (round_rows quotes rides round) (round_columns quotes round)

-- a round of rides was played by two boards as they stood, and this is told of it
pub record PlaysRound (penalty : ℕ) (rides : List Ride) (first new_first second new_second : State) (sheet : RoundSheet) : Type 0 where
  pub first_brief : Brief
  pub second_brief : Brief
  pub is_round : IsRoundOf penalty (quotes_of first second rides) rides sheet first_brief second_brief
  pub first_awarded : IsAwarded first_brief first new_first
  pub second_awarded : IsAwarded second_brief second new_second

-- a league's round was made of the first requests that waited
abbrev pub MakesRound : LeagueState → LeagueState → RoundSheet → Type 0
MakesRound old new sheet = let rides = take old.desk.settings.batch (waiting_rides old.desk) in (new.desk ≡ after_round old.desk rides)
    × PlaysRound old.desk.settings.penalty rides old.first new.first old.second new.second sheet

-- a line of a feed takes a league on, and this becomes of it
pub record TakesLine (old new : LeagueState) (line : FeedLine) (told : Told) : Type 0 where
  pub answered : IsFalse (makes_round old line) → (new ≡ (league_answer old line).0) × (told ≡ Answer (league_answer old line).1)
  pub made : IsTrue (makes_round old line) → (sheet : RoundSheet) × MakesRound old new sheet × (told ≡ Round (old.desk.asked + 1) sheet)

-- lines of a feed take a league on, one after another, and give a text
unfoldable pub TellsLines : ℕ → LeagueState → List FeedLine → LeagueState → List ℕ → Type 0
TellsLines log old [] new text = (new ≡ old) × (text ≡ [])
TellsLines log old (line ∷ lines) new text = (between : LeagueState) × (told : Told) × (rest : List ℕ) × TakesLine old between line told
    × TellsLines log between lines new rest × (text ≡ told_line log line told ++ rest)
