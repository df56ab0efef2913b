-- A session that goes on from a board over two feeds.
use Rattle.std.specs.Prelude.{◌≡◌, ◌⊎◌, ℕ, Bool, true, false}
use Rattle.ride_ports.specs.Status.{status_of}
use Rattle.ride_ports.specs.declared.outcome.Ran.{Ran}
use Rattle.ride_model.specs.declared.entry.Ending.TheVariants.{Whole}
use Rattle.line_text.specs.line_reader.Limits.{IsWithinLimits}
use Rattle.line_text.specs.declared.line_reader.limits.Limits.{Limits}
use Rattle.command_lines.specs.Limits.{limits_of}
use Rattle.board_core.specs.Recorded.{Recorded}
use Rattle.live_sessions.specs.Resuming.{IsResumed, form_after, still_feeds}
use Rattle.live_sessions.specs.Serving.{CountsFeeds, FeedRun, HasNotServed}
use Rattle.dispatcher.specs.Shelves.{Sunk}

-- whether a feed of a board may still give commands
abbrev pub still_gives : Recorded → ℕ → Bool
still_gives board feed = still_feeds board.start board.feeds board.history feed

-- the limits of what a feed of a board may still give
abbrev pub room_of : Recorded → ℕ → Limits
room_of board feed = limits_of (form_after board.start feed board.history).lines

-- a session went on: at status 0, which comes only where both feeds are within their limits, each feed that still gave commands ended whole
pub record HasAnsweredOn (board : Recorded) (riders drivers : FeedRun) (ran : Ran) (out : Sunk) : Type 0 where
  pub resumed : IsResumed board riders drivers ran out.before out.after
  pub all_of_riders : status_of ran ≡ 0 → (gives : still_gives board 1 ≡ true) → (resumed.of_riders.going gives).ending ≡ Whole
  pub all_of_drivers : status_of ran ≡ 0 → (gives : still_gives board 2 ≡ true) → (resumed.of_drivers.going gives).ending ≡ Whole
  pub within : status_of ran ≡ 0 → IsWithinLimits (room_of board 1) resumed.riders_taken × IsWithinLimits (room_of board 2) resumed.drivers_taken

-- nothing was read of a feed, and it counted no fault
pub record IsUnheard (feed : FeedRun) : Type 0 where
  pub nothing_read : feed.left ≡ feed.bytes
  pub no_fault : feed.faults_after ≡ feed.faults_before

-- a session ran on from a board: it answered both feeds, as far as each was read, or memory was wanting before anything was read or
-- written. A feed that gives no command more is not read. It says that a source failed only where one did
pub record GoesOn (board : Recorded) (riders drivers : FeedRun) (out : Sunk) (status : ℕ) : Type 0 where
  pub ran : Ran
  pub status_is : status ≡ status_of ran
  pub answered : HasNotServed riders drivers ran out.before out.after ⊎ HasAnsweredOn board riders drivers ran out
  pub riders_over : still_gives board 1 ≡ false → IsUnheard riders
  pub drivers_over : still_gives board 2 ≡ false → IsUnheard drivers
  pub counts : CountsFeeds riders drivers ran
