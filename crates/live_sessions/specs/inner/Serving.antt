-- What only lemmas and lower contracts use beside Serving.antt.
use Rattle.std.specs.Prelude.{◌≡◌, ℕ, ◌⊎◌, true, List, Option}
use Rattle.ride_model.specs.declared.entry.Entry.{Entry}
use Rattle.ride_model.specs.State.{State}
use Rattle.ride_model.specs.Text.{text_of}
use Rattle.ride_ports.specs.declared.outcome.Ran.{Ran}
use Rattle.line_text.specs.line_reader.Limits.{IsTooLong}
use Rattle.command_lines.specs.Limits.{feed_limits, new_feed}
use Rattle.live_sessions.specs.Serving.{FeedRun, IsFeedOf, HasServed, IsWrittenOut}

-- that of a source, by what a source has left and what it counts
abbrev pub feed_run : {S : Type 0} → (S → Option (List ℕ)) → (S → ℕ) → S → S → FeedRun
feed_run left faults before after = record {
  bytes = left before;
  left = left after;
  faults_before = faults before;
  faults_after = faults after;
}

-- a session was served: its history answers both feeds, and its text is the log
abbrev pub IsServed : State → ℕ → FeedRun → FeedRun → Ran → Option (List ℕ) → Option (List ℕ) → Type 0
IsServed start desks riders drivers ran before after =
    (riders_taken drivers_taken : List ℕ) × (entries : List Entry)
    × HasServed start 2 desks ran entries
    × IsFeedOf (new_feed start.settings.log) 1 riders ran riders_taken entries
    × IsFeedOf (new_feed start.settings.log) 2 drivers ran drivers_taken entries
    × (ran.too_long ≡ true → IsTooLong feed_limits riders_taken ⊎ IsTooLong feed_limits drivers_taken)
    × IsWrittenOut ran before after (text_of start.settings.log 2 desks entries)
