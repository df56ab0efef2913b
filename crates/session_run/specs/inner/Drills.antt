-- What only lemmas and lower contracts use beside Drills.antt.
use Rattle.std.specs.Prelude.{◌≡◌, ℕ, ◌+◌, ◌++◌, List, [], ◌∷◌, length}
use Rattle.ride_model.specs.declared.entry.Entry.{Entry}
use Rattle.ride_model.specs.Drill.{DrillStep, Follows, drive}
use Rattle.ride_model.specs.History.{fed_commands}
use Rattle.board_core.specs.Recorded.{Recorded, state_of}
use Rattle.session_run.specs.Running.{IsPrompt}
use Rattle.session_run.specs.inner.Running.{IsSession}

-- a board of two feeds between two commands, each of whose batches was opened and committed at once
pub record IsDrilling (board : Recorded) : Type 0 where
  pub session : IsSession board
  pub two_feeds : board.feeds ≡ 2
  pub all_opened : (state_of board).opened ≡ (state_of board).asked
  pub prompt : IsPrompt board.history

-- a drill went on by these steps: so many commands were given, and so many reports were left before and are left now
pub record GoesBy (steps : List DrillStep) (given left_before left_now : ℕ) (old new : Recorded) : Type 0 where
  pub start : new.start ≡ old.start
  pub drilling : IsDrilling new
  pub follows : (before : List DrillStep) → Follows old.start before old.history → Follows new.start (before ++ steps) new.history
  pub fed : length (fed_commands 1 new.history) ≡ length (fed_commands 1 old.history) + given
  pub reported : length (fed_commands 2 new.history) + left_now ≡ length (fed_commands 2 old.history) + left_before

-- the driver of the vehicle at a place has made these reports, after which the others may follow
pub record IsReporting (place : ℕ) (old new : Recorded) : Type 0 where
  pub start : new.start ≡ old.start
  pub drilling : IsDrilling new
  pub made : List Entry
  pub grows : new.history ≡ old.history ++ made
  pub goes_on : (later : List Entry) → Follows (state_of new) (drive place ∷ []) later → Follows (state_of old) (drive place ∷ []) (made ++ later)
  pub fed : fed_commands 1 new.history ≡ fed_commands 1 old.history
