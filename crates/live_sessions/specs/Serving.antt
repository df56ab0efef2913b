-- What a session of two feeds gives.
use Rattle.std.specs.Prelude.{◌≡◌, ℕ, ◌≤◌, ◌⊎◌, true, false, List, [], ◌∷◌, ◌++◌, All, Option, IsTrue, IsFalse}
use Rattle.std.specs.List.{list_any}
use Rattle.ride_model.specs.declared.command.Actor.TheVariants.{Feed, Desk}
use Rattle.ride_model.specs.declared.entry.Ending.{Ending}
use Rattle.ride_model.specs.declared.entry.Ending.TheVariants.{Whole, Cut}
use Rattle.ride_model.specs.declared.entry.Entry.{Entry}
use Rattle.ride_model.specs.History.{ended_whole, entries_of, fed_commands, is_abandoned, IsFinished}
use Rattle.ride_model.specs.Legal.{IsLegal, IsNumbered, replay}
use Rattle.ride_model.specs.Promises.{KeepsPromises}
use Rattle.ride_model.specs.State.{State}
use Rattle.ride_model.specs.Text.{HasText}
use Rattle.ride_ports.specs.declared.outcome.Ran.{Ran}
use Rattle.ride_ports.specs.Bytes.{Reads, Writes, WritesPrefix}
use Rattle.ride_ports.specs.Count.{Rose}
use Rattle.command_lines.specs.Feeds.{IsWhole}
use Rattle.line_text.specs.line_reader.Limits.{IsTooLong}
use Rattle.command_lines.specs.declared.forms.FeedForm.{FeedForm}
use Rattle.command_lines.specs.Limits.{ended_commands, limits_of}
use Rattle.board_core.specs.Recorded.{end_entry}
use Rattle.model_laws.specs.history_laws.Start.{IsStart, is_fed}
use Rattle.line_text.specs.line_reader.FeedRuns.{IsReadWhole}
use Rattle.session_loops.specs.Stops.{AreFirstOf}

-- a feed of a session, before and after it: the bytes that its source has left, and the faults that it counts
pub record FeedRun : Type 0 where
  pub bytes : Option (List ℕ)
  pub left : Option (List ℕ)
  pub faults_before : ℕ
  pub faults_after : ℕ

-- a session counts the faults of two sources: it says that one failed only where a count rose, neither rose where it does not say so, and
-- no count falls
pub record CountsFeeds (riders drivers : FeedRun) (ran : Ran) : Type 0 where
  pub failed : IsTrue ran.source_failed → Rose riders.faults_before riders.faults_after ⊎ Rose drivers.faults_before drivers.faults_after
  pub riders_sound : IsFalse ran.source_failed → riders.faults_after ≡ riders.faults_before
  pub drivers_sound : IsFalse ran.source_failed → drivers.faults_after ≡ drivers.faults_before
  pub riders_never_fall : riders.faults_before ≤ riders.faults_after
  pub drivers_never_fall : drivers.faults_before ≤ drivers.faults_after

-- a history has this part of a feed, of whose bytes these were taken: the answers to its commands, once and in order, and its
-- end. It ended whole exactly where all its commands were answered, and where memory was not wanting it was cut exactly where
-- its own source failed or was too long, after the commands of the lines that an LF ends within the limits
pub record IsFeedOf (form : FeedForm) (feed : ℕ) (run : FeedRun) (ran : Ran) (taken : List ℕ) (entries : List Entry) : Type 0 where
  pub reads : Reads run.bytes run.left taken
  pub answers : List Entry
  pub ending : Ending
  pub part : entries_of (Feed feed) entries ≡ answers ++ end_entry (Feed feed) ending ∷ []
  pub fed : All (λ (entry : Entry). IsTrue (is_fed entry.event)) answers
  pub first : AreFirstOf form run.bytes taken (fed_commands feed entries)
  pub whole : ending ≡ Whole → IsWhole form run.left (fed_commands feed entries) taken × (run.faults_after ≡ run.faults_before)
  pub cut : ran.no_memory ≡ false → ending ≡ Cut → (fed_commands feed entries ≡ ended_commands form taken)
      × (Rose run.faults_before run.faults_after ⊎ IsTooLong (limits_of form.lines) taken)

-- a legal history of so many feeds and desks, which keeps its promises. Where memory was not wanting each desk ended whole and no batch was
-- given up, and where each feed was read whole too it is finished
pub record HasServed (start : State) (feeds desks : ℕ) (ran : Ran) (entries : List Entry) : Type 0 where
  pub begins : IsStart start
  pub legal : IsLegal feeds desks start entries
  pub text : HasText start.settings.log feeds desks entries
  pub promises : KeepsPromises start entries
  pub desks_whole : ran.no_memory ≡ false → (desk : ℕ) → IsNumbered desks desk → IsTrue (ended_whole (replay start entries) (Desk desk))
  pub none_given_up : ran.no_memory ≡ false → IsFalse (list_any (λ (entry : Entry). is_abandoned entry.event) entries)
  pub finished : ran.no_memory ≡ false → IsReadWhole ran → IsFinished feeds desks start entries

-- the whole log was written, or a prefix of it where the sink failed
pub record IsWrittenOut (ran : Ran) (before after : Option (List ℕ)) (text : List ℕ) : Type 0 where
  pub whole : ran.sink_failed ≡ false → Writes before after text
  pub prefix : ran.sink_failed ≡ true → WritesPrefix before after text

-- memory was wanting before anything was read or written, and nothing else kept the session from running whole
pub record HasNotServed (riders drivers : FeedRun) (ran : Ran) (before after : Option (List ℕ)) : Type 0 where
  pub ran_is : ran ≡ record { sink_failed = false; no_memory = true; source_failed = false; too_long = false }
  pub nothing_written : after ≡ before
  pub nothing_read_of_riders : riders.left ≡ riders.bytes
  pub nothing_read_of_drivers : drivers.left ≡ drivers.bytes
