-- What is done over the sources of a run, and what is written of it.
use Rattle.std.specs.Prelude.{◌≡◌, ◌⊎◌, ℕ, true, false, List, [], Option, IfSome}
use Rattle.ride_ports.specs.Bytes.{Reads}
use Rattle.ride_ports.specs.Status.{status_of}
use Rattle.ride_ports.specs.declared.outcome.Ran.{Ran}
use Rattle.ride_model.specs.Text.{text_of}
use Rattle.ride_model.specs.declared.entry.Entry.{Entry}
use Rattle.ride_model.specs.declared.entry.Ending.TheVariants.{Whole}
use Rattle.city_maker.specs.declared.plan.CityPlan.{CityPlan}
use Rattle.city_maker.specs.Steps.{Drilled}
use Rattle.line_text.specs.line_reader.FeedRuns.{IsReadWhole, IsUnhindered}
use Rattle.line_text.specs.line_reader.Limits.{IsTooLong, IsWithinLimits}
use Rattle.command_lines.specs.Limits.{feed_limits, new_feed}
use Rattle.session_run.specs.Ahead.{IsWrittenBy}
use Rattle.session_run.specs.Drills.{summary_line}
use Rattle.session_run.specs.Logged.{IsLogged}
use Rattle.session_run.specs.Replay.{IsReplay}
use Rattle.live_sessions.specs.Serving.{CountsFeeds, FeedRun, HasNotServed, HasServed, IsFeedOf, IsWrittenOut}
use Rattle.booking_desk.specs.Booked.{IsBooked}
use Rattle.fleet_league.specs.league_session.Leagued.{IsLeagued}
use Rattle.dispatcher.specs.Meanings.{Meaning, start_of}
use Rattle.dispatcher.specs.Shelves.{Sunk}

-- a feed was replayed, as far as it was read: the log of its history was written, or where a reach is given the sheets of idle
-- vehicles sent ahead after its commits
pub record Replays (m : Meaning) (reach : Option ℕ) (feed : FeedRun) (out : Sunk) (status : ℕ) : Type 0 where
  pub ran : Ran
  pub status_is : status ≡ status_of ran
  pub taken : List ℕ
  pub reads : Reads feed.bytes feed.left taken
  pub to_end : ran.no_memory ≡ false → IsReadWhole ran → IfSome feed.left (λ rest. rest ≡ [])
  pub entries : List Entry
  pub replayed : IsReplay (start_of m) ran feed.bytes taken entries
  pub written : IsWrittenBy reach (start_of m) ran taken entries out.before out.after

-- what the lines of a feed give was written, as far as it was read
pub record RunsOver (feed : FeedRun) (status : ℕ) (IsTold : Ran → List ℕ → Type 0) : Type 0 where
  pub ran : Ran
  pub status_is : status ≡ status_of ran
  pub taken : List ℕ
  pub reads : Reads feed.bytes feed.left taken
  pub to_end : IsUnhindered ran → IsReadWhole ran → IfSome feed.left (λ rest. rest ≡ [])
  pub told : IsTold ran taken

-- the plain feed of a feed of bookings, and the text of a league of two companies
abbrev pub Books : FeedRun → Sunk → ℕ → Type 0
Books feed out status = RunsOver feed status (λ ran taken. IsBooked ran feed.bytes taken out.before out.after)

abbrev pub PlaysLeague : Meaning → FeedRun → Sunk → ℕ → Type 0
PlaysLeague m feed out status =
    RunsOver feed status (λ ran taken. IsLeagued m.network m.settings m.vehicles m.second ran feed.bytes taken out.before out.after)

-- a drill ran over no file: what was written is the line of a history of the plan's drill, or nothing where memory was wanting
pub record Drills (plan : CityPlan) (out : Sunk) (status : ℕ) : Type 0 where
  pub ran : Ran
  pub status_is : status ≡ status_of ran
  pub no_source : ran.source_failed ≡ false
  pub no_limit : ran.too_long ≡ false
  pub drilled : ran.no_memory ≡ false → (entries : List Entry) × Drilled plan entries × IsLogged ran [] out.before out.after (summary_line plan entries)
  pub nothing_written : ran.no_memory ≡ true → out.after ≡ out.before

-- a service answered both feeds: what was written is the text of one legal history, in which each feed's commands stand once and in order: all of them at status 0,
-- which comes only where both feeds are within their limits
pub record HasAnswered (m : Meaning) (desks : ℕ) (riders drivers : FeedRun) (ran : Ran) (out : Sunk) : Type 0 where
  pub riders_taken : List ℕ
  pub drivers_taken : List ℕ
  pub entries : List Entry
  pub written : IsWrittenOut ran out.before out.after (text_of m.settings.log 2 desks entries)
  pub legal : HasServed (start_of m) 2 desks ran entries
  pub of_riders : IsFeedOf (new_feed m.settings.log) 1 riders ran riders_taken entries
  pub of_drivers : IsFeedOf (new_feed m.settings.log) 2 drivers ran drivers_taken entries
  pub too_long : ran.too_long ≡ true → IsTooLong feed_limits riders_taken ⊎ IsTooLong feed_limits drivers_taken
  pub all_of_riders : status_of ran ≡ 0 → (of_riders.ending ≡ Whole) × IsWithinLimits feed_limits riders_taken
  pub all_of_drivers : status_of ran ≡ 0 → (of_drivers.ending ≡ Whole) × IsWithinLimits feed_limits drivers_taken

-- a service ran: it answered both feeds, as far as each was read, or memory was wanting before anything was read or written. It
-- says that a source failed only where one did
pub record Serves (m : Meaning) (desks : ℕ) (riders drivers : FeedRun) (out : Sunk) (status : ℕ) : Type 0 where
  pub ran : Ran
  pub status_is : status ≡ status_of ran
  pub served : HasNotServed riders drivers ran out.before out.after ⊎ HasAnswered m desks riders drivers ran out
  pub counts : CountsFeeds riders drivers ran
