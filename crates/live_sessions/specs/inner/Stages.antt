-- A session before and after its actors ran.
use Rattle.std.specs.Prelude.{◌≡◌, ◌≢◌, ℕ, ◌≤◌, ◌+◌, ◌||◌, not, Bool, false, List, [], ◌∷◌, length, Option, Result, Ok, Err, IfSome, IsNone, IsSomeAnd, MatchOption}
use mathlib.Core.List.{IsPrefix}
use Rattle.ride_model.specs.declared.command.Actor.TheVariants.{Feed, Desk as DeskNumbered}
use Rattle.ride_model.specs.History.{fed_commands}
use Rattle.ride_model.specs.Legal.{IsLegal}
use Rattle.ride_model.specs.inner.Limits.{most_earlier_commands}
use Rattle.ride_model.specs.Road.{RoadMap}
use Rattle.ride_model.specs.Seating.{BatchCopy}
use Rattle.ride_model.specs.State.{has_ended, open_batch_of}
use Rattle.ride_model.specs.Text.{HasText}
use Rattle.ride_ports.specs.declared.outcome.Ran.{Ran}
use Rattle.ride_ports.specs.declared.sources.Failed.{Failed}
use Rattle.model_laws.specs.history_laws.Start.{IsStart}
use Rattle.board_core.specs.Recorded.{Recorded, state_of}
use Rattle.turn_lock.specs.Passes.{knowledge}
use Rattle.fleet_board.specs.declared.shared.SharedBoard.{SharedBoard}
use Rattle.fleet_board.specs.inner.Passes.{IsPoint, root_of}
use Rattle.fleet_board.specs.inner.Sets.{IsBack, IsNewPass, IsPartOf, one_if_some}
use Rattle.fleet_board.specs.inner.Turns.{as_began}
use Rattle.line_text.specs.inner.text_page.Output.{IsFresh}
use Rattle.live_sessions.specs.declared.actors.Actors.{Actors}
use Rattle.live_sessions.specs.declared.actors.Answers.{Answers}
use Rattle.live_sessions.specs.declared.desk_pairs.Desk.{Desk}
use Rattle.live_sessions.specs.declared.desk_pairs.Desks.{Desks}
use Rattle.live_sessions.specs.declared.feed_pairs.Feeder.{Feeder}
use Rattle.live_sessions.specs.declared.feed_pairs.Feeders.{Feeders}
use Rattle.live_sessions.specs.declared.living.Living.{Living}
use Rattle.live_sessions.specs.declared.living.FeedStart.{FeedStart}
use Rattle.live_sessions.specs.declared.stages.Stage.{Stage}
use Rattle.session_loops.specs.declared.scribes.Scribed.{Scribed}
use Rattle.live_sessions.specs.inner.Actors.{IsIdle, LeavesDesk, LeavesFeeder, LeavesScribe, MayRunDesk, MayRunFeeder, MayScribe, either}
use Rattle.live_sessions.specs.Resuming.{form_after}
use Rattle.live_sessions.specs.Serving.{FeedRun}

-- the board that a session goes on from, by the scribe's pass: as it began, and then with what had happened
abbrev pub board_of : Stage → Recorded
board_of stage = record (root_of (knowledge stage.actors.scribe)) { history = (knowledge stage.actors.scribe).seen }

-- a feed of a board stands so: it has not ended, or has, and may have as many lines as one that begins less those that are answered
pub record IsFeedStart (board : Recorded) (feed : ℕ) (start : FeedStart) : Type 0 where
  pub lives_is : start.lives ≡ not (has_ended (state_of board) (Feed feed))
  pub form_is : start.form ≡ form_after board.start feed board.history

-- which actors of a board have not ended: of drivers and of a second desk only where there are such
pub record AreLiving (board : Recorded) (living : Living) : Type 0 where
  pub riders : IsFeedStart board 1 living.riders
  pub drivers : board.feeds ≡ 2 → IsFeedStart board 2 living.drivers
  pub first : living.first ≡ not (has_ended (state_of board) (DeskNumbered 1))
  pub second : living.second ≡ not (has_ended (state_of board) (DeskNumbered 2))

-- a desk has this pricer's map and this open batch, and has ended or not
pub record IsEquipped (roads : RoadMap) (batch : Option BatchCopy) (lives : Bool) (desk : Desk) : Type 0 where
  pub pricer_is : desk.pricer ≡ roads
  pub batch_is : desk.open_batch ≡ batch
  pub lives_is : desk.lives ≡ lives

-- a feed of a board that was shared as it stands, and a desk of one
pub record IsFeederOf (shared : SharedBoard) (board : Recorded) (feed : ℕ) (feeder : Feeder) : Type 0 where
  pub pass : IsNewPass shared board feed feeder.pass
  pub stands : IsFeedStart board feed feeder.start

pub record IsDeskOf (shared : SharedBoard) (board : Recorded) (number : ℕ) (desk : Desk) : Type 0 where
  pub pass : IsNewPass shared board (number + 2) desk.pass
  pub equipped : IsEquipped board.start.roads (open_batch_of (state_of board) number) (not (has_ended (state_of board) (DeskNumbered number))) desk

-- a board was shared as it stands, with all that its actors need
pub record IsReady (stage : Stage) : Type 0 where
  pub few : (feed : ℕ) → length (fed_commands feed (board_of stage).history) ≤ most_earlier_commands
  pub feed_1 : IsFeederOf stage.board (board_of stage) 1 stage.actors.feeds.riders
  pub feed_2 : MatchOption stage.actors.feeds.drivers ((board_of stage).feeds ≢ 2)
      (λ (feeder : Feeder). ((board_of stage).feeds ≡ 2) × IsFeederOf stage.board (board_of stage) 2 feeder)
  pub desk_1 : IsDeskOf stage.board (board_of stage) 1 stage.actors.desks.first
  pub desk_2 : MatchOption stage.actors.desks.second ((board_of stage).desks ≢ 2)
      (λ (desk : Desk). ((board_of stage).desks ≡ 2) × IsDeskOf stage.board (board_of stage) 2 desk)
  pub scribe : IsBack stage.board 0 stage.actors.scribe
  pub scribe_point : IsPoint (knowledge stage.actors.scribe)
  pub out : (knowledge stage.actors.scribe).out ≡ 2 + one_if_some stage.actors.feeds.drivers + one_if_some stage.actors.desks.second
  pub output : IsFresh stage.output

-- all passes are back
pub record MayClose (board : SharedBoard) (actors : Actors) : Type 0 where
  pub feed_1 : IsBack board 1 actors.feeds.riders.pass
  pub feed_2 : IfSome actors.feeds.drivers (λ (feeder : Feeder). IsBack board 2 feeder.pass)
  pub desk_1 : IsBack board 3 actors.desks.first.pass
  pub desk_2 : IfSome actors.desks.second (λ (desk : Desk). IsBack board 4 desk.pass)
  pub scribe : IsBack board 0 actors.scribe
  pub out : (knowledge actors.scribe).out ≡ 2 + one_if_some actors.feeds.drivers + one_if_some actors.desks.second

-- the history of the board has each actor's part
pub record IsClosed (actors : Actors) (board : Recorded) : Type 0 where
  pub root : (knowledge actors.scribe).root ≡ as_began board ∷ []
  pub start : IsStart board.start
  pub legal : IsLegal board.feeds board.desks board.start board.history
  pub text : HasText board.start.settings.log board.feeds board.desks board.history
  pub seen : IsPrefix (knowledge actors.scribe).seen board.history
  pub feed_1 : IsPartOf board.history (Feed 1) (knowledge actors.feeds.riders.pass)
  pub feed_2 : IfSome actors.feeds.drivers (λ (feeder : Feeder). IsPartOf board.history (Feed 2) (knowledge feeder.pass))
  pub desk_1 : IsPartOf board.history (DeskNumbered 1) (knowledge actors.desks.first.pass)
  pub desk_2 : IfSome actors.desks.second (λ (desk : Desk). IsPartOf board.history (DeskNumbered 2) (knowledge desk.pass))

-- each feed may run
pub record MayRunFeeds (board : SharedBoard) (feeders : Feeders) : Type 0 where
  pub riders : MayRunFeeder board feeders.riders
  pub drivers : IfSome feeders.drivers (MayRunFeeder board)

-- each desk may run
pub record MayRunDesks (board : SharedBoard) (desks : Desks) : Type 0 where
  pub first : MayRunDesk board desks.first
  pub second : IfSome desks.second (MayRunDesk board)

-- all actors may run
pub record MayRunActors (board : SharedBoard) (log : ℕ) (actors : Actors) : Type 0 where
  pub feeds : MayRunFeeds board actors.feeds
  pub desks : MayRunDesks board actors.desks
  pub scribe : MayScribe board log actors.scribe

-- each feed ran with its answer; of drivers without a feed nothing was read
pub record LeavesFeeds (board : SharedBoard) (riders drivers : FeedRun) (answers : Ran × Ran) (old new : Feeders) : Type 0 where
  pub of_riders : LeavesFeeder board riders answers.0 old.riders new.riders
  pub of_drivers : MatchOption old.drivers (IsNone new.drivers × IsIdle drivers answers.1)
      (λ (earlier : Feeder). IsSomeAnd new.drivers (LeavesFeeder board drivers answers.1 earlier))

-- each desk ran, with one answer of them all
pub record LeavesDesks (board : SharedBoard) (ran : Ran) (old new : Desks) : Type 0 where
  pub first : LeavesDesk board ran old.first new.first
  pub second : MatchOption old.second (IsNone new.second)
      (λ (earlier : Desk). IsSomeAnd new.second (LeavesDesk board ran earlier))

-- all actors ran
pub record LeavesActors (board : SharedBoard) (log : ℕ) (riders drivers : FeedRun) (head_failed : Bool)
    (before after : Option (List ℕ)) (faults_before faults_after : ℕ) (answers : Answers) (old new : Actors) : Type 0 where
  pub feeds : LeavesFeeds board riders drivers (answers.riders, answers.drivers) old.feeds new.feeds
  pub desks : LeavesDesks board answers.desks old.desks new.desks
  pub scribe : LeavesScribe board log head_failed before after faults_before faults_after answers.scribed old.scribe new.scribe

-- whether a scribe ended for want of memory
abbrev pub is_cut_short : Result Scribed Failed → Bool
is_cut_short (Ok scribed) = not scribed.whole
is_cut_short (Err _) = false

-- what kept a session from running whole, by what its loops answered, whether its sink failed, and whether something was broken off
-- before it
abbrev pub ran_of : Answers → Bool → Bool → Ran
ran_of answers sink_failed broken_off =
    either (either answers.riders answers.drivers) (either answers.desks (record {
      sink_failed = sink_failed;
      no_memory = is_cut_short answers.scribed || broken_off;
      source_failed = false;
      too_long = false;
    }))
