-- What a session gives that goes on from a board as it stands.
use Rattle.std.specs.Prelude.{◌≡◌, ℕ, ◌-◌, ◌≤◌, ◌⊎◌, ◌&&◌, not, nat_le, Bool, true, false, List, [], ◌++◌, length, Option}
use Rattle.std.specs.List.{list_any}
use Rattle.ride_model.specs.declared.command.Actor.TheVariants.{Feed}
use Rattle.ride_model.specs.declared.entry.Entry.{Entry}
use Rattle.ride_model.specs.declared.entry.Event.{Event}
use Rattle.ride_model.specs.declared.entry.Event.TheVariants.{Abandoned, Finish}
use Rattle.ride_model.specs.History.{entries_of, fed_commands, is_whole}
use Rattle.ride_model.specs.State.{State, has_ended}
use Rattle.ride_model.specs.Legal.{IsNumbered, replay}
use Rattle.ride_model.specs.Text.{text_of}
use Rattle.ride_ports.specs.declared.outcome.Ran.{Ran}
use Rattle.line_text.specs.line_reader.Limits.{IsTooLong}
use Rattle.command_lines.specs.declared.forms.FeedForm.{FeedForm}
use Rattle.command_lines.specs.Limits.{limits_of, most_lines}
use Rattle.board_core.specs.Recorded.{Recorded}
use Rattle.live_sessions.specs.Serving.{FeedRun, HasServed, IsFeedOf, IsWrittenOut}

-- an event cuts its actor off, or gives a batch up; and one of these entries does
abbrev pub breaks_off : Event → Bool
breaks_off (Finish ending) = not (is_whole ending)
breaks_off (Abandoned _) = true
breaks_off _ = false

abbrev pub is_broken_off : List Entry → Bool
is_broken_off entries = list_any (λ (entry : Entry). breaks_off entry.event) entries

-- whether a feed may still give commands after these entries: there is one of this number, and it has not ended
abbrev pub still_feeds : State → ℕ → List Entry → ℕ → Bool
still_feeds start feeds before feed = nat_le feed feeds && not (has_ended (replay start before) (Feed feed))

-- none of so many feeds gave more commands than one may have lines, as in every log that a session writes
abbrev pub HaveFewCommands : ℕ → List Entry → Type 0
HaveFewCommands feeds entries = (feed : ℕ) → IsNumbered feeds feed → length (fed_commands feed entries) ≤ most_lines

-- how a feed is read after these entries: it may have as many lines as one that begins, less those that are answered
abbrev pub form_after : State → ℕ → List Entry → FeedForm
form_after start feed before = record { log = start.settings.log; lines = most_lines - length (fed_commands feed before) }

-- a feed that may give no command more adds none, and nothing was read of it
pub record IsOver (feed : ℕ) (run : FeedRun) (more : List Entry) : Type 0 where
  pub nothing_read : run.left ≡ run.bytes
  pub no_fault : run.faults_after ≡ run.faults_before
  pub adds_none : entries_of (Feed feed) more ≡ []

-- of a feed these bytes were taken, and their commands are what it adds to a history; of one that may give none, nothing
pub record IsFeedAfter (form : FeedForm) (feed : ℕ) (goes_on : Bool) (run : FeedRun) (ran : Ran) (taken : List ℕ) (more : List Entry) : Type 0 where
  pub going : goes_on ≡ true → IsFeedOf form feed run ran taken more
  pub over : goes_on ≡ false → (taken ≡ []) × IsOver feed run more

-- a session went on from these entries: its history begins with them, and what each feed adds are the answers to the commands of its
-- bytes, once and in order, of no more lines than one may have that begins, less those that were answered; the log is the text of it all. Where something was broken off before, memory is told to have been wanting
pub record HasResumed (start : State) (feeds desks : ℕ) (before : List Entry) (riders drivers : FeedRun) (ran : Ran)
    (written_before written_after : Option (List ℕ)) : Type 0 where
  pub more : List Entry
  pub history : HasServed start feeds desks ran (before ++ more)
  pub riders_taken : List ℕ
  pub drivers_taken : List ℕ
  pub of_riders : IsFeedAfter (form_after start 1 before) 1 (still_feeds start feeds before 1) riders ran riders_taken more
  pub of_drivers : IsFeedAfter (form_after start 2 before) 2 (still_feeds start feeds before 2) drivers ran drivers_taken more
  pub too_long : ran.too_long ≡ true
      → IsTooLong (limits_of (form_after start 1 before).lines) riders_taken ⊎ IsTooLong (limits_of (form_after start 2 before).lines) drivers_taken
  pub broken_off : is_broken_off before ≡ true → ran.no_memory ≡ true
  pub written : IsWrittenOut ran written_before written_after (text_of start.settings.log feeds desks (before ++ more))

-- the same from the history of a board
abbrev pub IsResumed : Recorded → FeedRun → FeedRun → Ran → Option (List ℕ) → Option (List ℕ) → Type 0
IsResumed board = HasResumed board.start board.feeds board.desks board.history
