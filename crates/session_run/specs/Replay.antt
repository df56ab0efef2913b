-- What a replay of a feed gives.
use Rattle.std.specs.Prelude.{◌≡◌, ℕ, true, false, List, Option, [], ◌∷◌, IfSome, IsTrue}
use Rattle.std.specs.List.{list_all}
use Rattle.ride_model.specs.declared.command.Actor.TheVariants.{Feed, Desk}
use Rattle.ride_model.specs.declared.entry.Ending.TheVariants.{Whole, Cut}
use Rattle.ride_model.specs.declared.entry.Entry.{Entry}
use Rattle.ride_model.specs.History.{ended_whole, fed_commands, IsDirect, IsFinished}
use Rattle.ride_model.specs.Legal.{IsLegal, replay}
use Rattle.ride_model.specs.Promises.{KeepsPromises}
use Rattle.ride_model.specs.State.{State}
use Rattle.ride_model.specs.Text.{HasText}
use Rattle.ride_ports.specs.declared.outcome.Ran.{Ran}
use Rattle.command_lines.specs.Commands.{commands_of}
use Rattle.line_text.specs.line_reader.Limits.{IsWithinLimits, IsTooLong}
use Rattle.command_lines.specs.Limits.{ended_commands, feed_limits, new_feed}
use Rattle.model_laws.specs.history_laws.Start.{IsStart}
use Rattle.line_text.specs.line_reader.FeedRuns.{IsReadWhole}
use Rattle.session_loops.specs.Stops.{AreFirstOf}
use Rattle.session_run.specs.Running.{IsPrompt}
use Rattle.session_run.specs.Settled.{settles}

-- a history of one feed and one desk answers the first commands of a feed, of whose bytes these were taken: all of them where nothing
-- was wanting, and those of its whole lines within the limits, after which it was cut, where only the source was; each accepted ask at
-- once by a commit. It says that the feed ended whole only where all were answered
pub record IsReplay (start : State) (ran : Ran) (feed : Option (List ℕ)) (taken : List ℕ) (entries : List Entry) : Type 0 where
  pub begins : IsStart start
  pub legal : IsLegal 1 1 start entries
  pub text : HasText start.settings.log 1 1 entries
  pub promises : KeepsPromises start entries
  pub settled : IsTrue (list_all (λ (entry : Entry). settles entry.event) entries)
  pub first : AreFirstOf (new_feed start.settings.log) feed taken (fed_commands 1 entries)
  pub whole : ran.no_memory ≡ false → IsReadWhole ran → IsWithinLimits feed_limits taken
      × (fed_commands 1 entries ≡ commands_of start.settings.log taken) × IsFinished 1 1 start entries × IsDirect entries
  pub cut : ran.no_memory ≡ false → (IsReadWhole ran → ⊥) → (fed_commands 1 entries ≡ ended_commands (new_feed start.settings.log) taken)
      × IsPrompt entries × ((replay start entries).ended ≡ (Feed 1, Cut) ∷ (Desk 1, Whole) ∷ [])
  pub within : ran.no_memory ≡ false → ran.too_long ≡ false → IsWithinLimits feed_limits taken
  pub too_long : ran.too_long ≡ true → IsTooLong feed_limits taken
  pub ended_whole : IsTrue (ended_whole (replay start entries) (Feed 1)) → IsWithinLimits feed_limits taken
      × IfSome feed (λ bytes. taken ≡ bytes) × (fed_commands 1 entries ≡ commands_of start.settings.log taken)
