-- What a league's session writes of its feed.
use Rattle.std.specs.Prelude.{◌≡◌, ℕ, ◌⊎◌, ◌++◌, true, false, List, [], Option}
use Rattle.ride_model.specs.declared.entry.Ending.{Ending}
use Rattle.ride_model.specs.declared.entry.Ending.TheVariants.{Cut, Whole}
use Rattle.ride_model.specs.declared.settings.Settings.{Settings}
use Rattle.ride_model.specs.declared.vehicle.Vehicle.{Vehicle}
use Rattle.ride_model.specs.Road.{RoadMap}
use Rattle.line_text.specs.line_reader.FeedRuns.{AreFirstLines, IsReadWhole, IsUnhindered}
use Rattle.line_text.specs.line_reader.Limits.{IsTooLong, IsWithinLimits, lines_within}
use Rattle.line_text.specs.Lines.{lines_of}
use Rattle.ride_ports.specs.Bytes.{Writes, WritesPrefix}
use Rattle.ride_ports.specs.declared.outcome.Ran.{Ran}
use Rattle.command_lines.specs.Limits.{feed_limits}
use Rattle.fleet_league.specs.league_session.Feed.{said_from}
use Rattle.fleet_league.specs.league_session.League.{LeagueState, TellsLines, league_start}
use Rattle.fleet_league.specs.league_session.LeagueTexts.{head_line, last_line}

-- a text of a legal league from its start on, which takes each of the lines that is neither blank nor a comment, once and in order
pub record IsLeagueText (start : LeagueState) (lines : List (List ℕ)) (text : List ℕ) : Type 0 where
  pub end : LeagueState
  pub body : List ℕ
  pub tells : TellsLines start.desk.settings.log start (said_from start.desk.settings.log 1 lines) end body
  pub text_is : text ≡ head_line ++ body

-- of the bytes of a feed these were taken, and so much of a legal league's text was written: that of all lines and `end`, where
-- nothing stood in the way; that of the lines within the limits and `cut`, where only the source did; without a last line that of
-- some first lines, where memory was wanting, or nothing, where it was wanting before anything was taken; and some first bytes of
-- one, where the sink failed
pub record IsLeagued (roads : RoadMap) (settings : Settings) (first second : List Vehicle) (ran : Ran) (feed : Option (List ℕ))
    (taken : List ℕ) (before after : Option (List ℕ)) : Type 0 where
  pub whole : IsUnhindered ran → IsReadWhole ran → (text : List ℕ) × Writes before after (text ++ last_line Whole)
      × IsLeagueText (league_start roads settings first second) (lines_of taken) text
  pub cut : IsUnhindered ran → (IsReadWhole ran → ⊥) → (text : List ℕ) × Writes before after (text ++ last_line Cut)
      × IsLeagueText (league_start roads settings first second) (lines_within feed_limits taken) text
  pub no_memory : ran.sink_failed ≡ false → ran.no_memory ≡ true → ((taken ≡ []) × (after ≡ before)) ⊎ ((lines : List (List ℕ)) × (text : List ℕ)
      × AreFirstLines feed taken lines × IsLeagueText (league_start roads settings first second) lines text × Writes before after text)
  pub sink_failed : ran.sink_failed ≡ true → (lines : List (List ℕ)) × (text : List ℕ) × (ending : Ending)
      × AreFirstLines feed taken lines × IsLeagueText (league_start roads settings first second) lines text
      × WritesPrefix before after (text ++ last_line ending)
  pub within : IsUnhindered ran → ran.too_long ≡ false → IsWithinLimits feed_limits taken
  pub too_long : ran.too_long ≡ true → IsTooLong feed_limits taken
