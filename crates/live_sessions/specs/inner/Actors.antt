-- What the actors of a session need, and what they leave.
use Rattle.std.specs.Prelude.{◌≡◌, ℕ, ◌≤◌, ◌++◌, ◌||◌, Bool, true, false, List, [], length, take, Option, Result, IfOk, IfSome, MatchOption, is_err}
use Rattle.ride_model.specs.declared.entry.Entry.{Entry}
use Rattle.ride_model.specs.Text.{entry_lines}
use Rattle.ride_model.specs.inner.Limits.{most_earlier_commands}
use Rattle.ride_ports.specs.Count.{KeepsCount}
use Rattle.ride_ports.specs.declared.outcome.Ran.{Ran}
use Rattle.ride_ports.specs.declared.sources.Failed.{Failed}
use Rattle.command_lines.specs.declared.forms.FeedForm.{FeedForm}
use Rattle.command_lines.specs.inner.Limits.{IsForm}
use Rattle.board_core.specs.Recorded.{Recorded}
use Rattle.turn_lock.specs.declared.chronicle.Chronicle.{Ghosts}
use Rattle.turn_lock.specs.declared.lock.Pass.{Pass}
use Rattle.turn_lock.specs.Passes.{knowledge}
use Rattle.fleet_board.specs.declared.shared.Kept.{Kept}
use Rattle.fleet_board.specs.declared.shared.SharedBoard.{SharedBoard}
use Rattle.batch_commit.specs.inner.Table.{IsPriceable}
use Rattle.fleet_board.specs.inner.Passes.{AddsNone, IsPoint, commands_in, root_of}
use Rattle.fleet_board.specs.Roles.{MayCommit, MayFeed, MayOpen}
use Rattle.fleet_board.specs.Sharing.{MayUse}
use Rattle.line_text.specs.inner.text_page.Output.{HasPut, OutputState}
use Rattle.session_loops.specs.declared.scribes.Scribed.{Scribed}
use Rattle.session_loops.specs.inner.Loops.{RunsDesk, RunsFeed}
use Rattle.live_sessions.specs.declared.desk_pairs.Desk.{Desk}
use Rattle.live_sessions.specs.declared.feed_pairs.Feeder.{Feeder}
use Rattle.live_sessions.specs.Serving.{FeedRun}

-- what kept either of two from running whole
abbrev pub either : Ran → Ran → Ran
either one other = record {
  sink_failed = one.sink_failed || other.sink_failed;
  no_memory = one.no_memory || other.no_memory;
  source_failed = one.source_failed || other.source_failed;
  too_long = one.too_long || other.too_long;
}

-- nothing does
abbrev pub nothing_wanting : Ran
nothing_wanting = record { sink_failed = false; no_memory = false; source_failed = false; too_long = false }

-- nothing was read of a feed, and nothing was wanting
pub record IsIdle (run : FeedRun) (ran : Ran) : Type 0 where
  pub nothing_read : run.left ≡ run.bytes
  pub no_fault : run.faults_after ≡ run.faults_before
  pub ran_is : ran ≡ nothing_wanting

-- only want of memory keeps a desk from running whole
pub record OnlyWants (ran : Ran) : Type 0 where
  pub sink : ran.sink_failed ≡ false
  pub source : ran.source_failed ≡ false
  pub length : ran.too_long ≡ false

-- an output with nothing on its page
abbrev pub bare : Bool → OutputState
bare failed = record { page = []; full = 0; failed = failed }

-- the lines of so many entries were logged, by what the scribe answered
pub record HasToldSome (log : ℕ) (head_failed : Bool) (before after : Option (List ℕ)) (faults_before faults_after : ℕ)
    (scribed : Result Scribed Failed) (count : ℕ) (seen : List Entry) : Type 0 where
  pub told : (earlier : Option (List ℕ)) (faults : ℕ) (text : List ℕ)
      → HasPut earlier before faults faults_before (bare head_failed) text
      → HasPut earlier after faults faults_after (bare (is_err scribed)) (text ++ entry_lines log (take count seen))

module _ {g : Ghosts Kept Recorded Entry} where
  -- a feed may run: few commands are its own, and more are read so, by the board's version of the log
  pub record MayRunFeed (board : SharedBoard) (form : FeedForm) (pass : Pass Kept Recorded Entry g) : Type 0 where
    pub feed : MayFeed board pass
    pub form_is : IsForm form
    pub log_is : form.log ≡ (root_of (knowledge pass)).start.settings.log
    pub few : length (commands_in (knowledge pass).own) ≤ most_earlier_commands

  -- a feed ran
  pub record LeavesFeed (board : SharedBoard) (form : FeedForm) (run : FeedRun) (ran : Ran) (old new : Pass Kept Recorded Entry g) : Type 0 where
    pub may_use : MayUse board new
    pub runs : RunsFeed form run.bytes run.left ran (knowledge old) (knowledge new)
    pub sink : ran.sink_failed ≡ false
    pub faults : KeepsCount ran.source_failed run.faults_before run.faults_after

  -- a scribe may run: it writes by the board's version of the log
  pub record MayScribe (board : SharedBoard) (log : ℕ) (pass : Pass Kept Recorded Entry g) : Type 0 where
    pub may_use : MayUse board pass
    pub point : IsPoint (knowledge pass)
    pub log_is : log ≡ (root_of (knowledge pass)).start.settings.log

  -- a scribe ran, or wrote nothing where the head was not written
  pub record LeavesScribe (board : SharedBoard) (log : ℕ) (head_failed : Bool) (before after : Option (List ℕ))
      (faults_before faults_after : ℕ) (scribed : Result Scribed Failed) (old new : Pass Kept Recorded Entry g) : Type 0 where
    pub may_use : MayUse board new
    pub none : AddsNone (knowledge old) (knowledge new)
    pub count : ℕ
    pub within : count ≤ length (knowledge new).seen
    pub answered : IfOk scribed (λ (s : Scribed). (s.entries ≡ count) × (head_failed ≡ false))
    pub some : HasToldSome log head_failed before after faults_before faults_after scribed count (knowledge new).seen

-- a feed may run, unless it has ended
pub record MayRunFeeder (board : SharedBoard) (feeder : Feeder) : Type 0 where
  pub may_use : MayUse board feeder.pass
  pub going : feeder.start.lives ≡ true → MayRunFeed board feeder.start.form feeder.pass

-- a feed ran, or one that had ended did nothing and was not read
pub record LeavesFeeder (board : SharedBoard) (run : FeedRun) (ran : Ran) (old new : Feeder) : Type 0 where
  pub may_use : MayUse board new.pass
  pub going : old.start.lives ≡ true → LeavesFeed board old.start.form run ran old.pass new.pass
  pub over : old.start.lives ≡ false → (new.pass ≡ old.pass) × IsIdle run ran

-- a desk may run, unless it has ended: it prices over the board's map, also the batch that it has open
pub record MayRunDesk (board : SharedBoard) (desk : Desk) : Type 0 where
  pub may_use : MayUse board desk.pass
  pub going : desk.lives ≡ true → MatchOption desk.open_batch (MayOpen board desk.pass) (MayCommit board desk.pass)
  pub priceable : IfSome desk.open_batch (IsPriceable desk.pricer)
  pub roads_are : (root_of (knowledge desk.pass)).start.roads ≡ desk.pricer

-- a desk ran, or one that had ended did nothing
pub record LeavesDesk (board : SharedBoard) (ran : Ran) (old new : Desk) : Type 0 where
  pub may_use : MayUse board new.pass
  pub going : old.lives ≡ true → RunsDesk old.open_batch ran (knowledge old.pass) (knowledge new.pass)
  pub over : old.lives ≡ false → new.pass ≡ old.pass
  pub only : OnlyWants ran
