-- A league that takes a feed, line by line.
use Rattle.std.specs.Prelude.{◌≡◌, ℕ, List, ◌++◌, length, Option, Some, None}
use Rattle.ride_model.specs.declared.entry.Ending.{Ending}
use Rattle.ride_model.specs.declared.entry.Ending.TheVariants.{Cut, Whole}
use Rattle.ride_model.specs.Text.{IsOneOrTwo}
use Rattle.line_text.specs.declared.line_reader.stops.Stop.{Stop}
use Rattle.line_text.specs.declared.line_reader.stops.Stop.TheVariants.{NoMemory, OfFeed}
use Rattle.fleet_league.specs.inner.league_session.Feed.{said_in}
use Rattle.fleet_league.specs.league_session.League.{LeagueState, TellsLines}
use Rattle.fleet_league.specs.inner.league_session.LeagueBoards.{IsLeague, LeagueBoards, league_of}
use Rattle.fleet_league.specs.league_session.LeagueTexts.{last_line}

-- from a start on a league has taken these lines of a feed, and this text is what becomes of them; it is in order, and the log's
-- version is its own
pub record HasTold (start : LeagueState) (lines : List (List ℕ)) (text : List ℕ) (log : ℕ) (league : LeagueBoards) : Type 0 where
  pub log_fits : IsOneOrTwo log
  pub log_is : log ≡ start.desk.settings.log
  pub log_stays : log ≡ league.desk.start.settings.log
  pub fits : IsLeague (length lines) league
  pub tells : TellsLines log start (said_in log lines) (league_of league) text

-- the ending of a feed that was stopped, or was not: none where its text stops short of the last line
abbrev pub ending_of : Option Stop → Option Ending
ending_of None = Some Whole
ending_of (Some (OfFeed stop)) = Some Cut
ending_of (Some NoMemory) = None

-- a text with its last line, where it has one
abbrev pub with_ending : Option Ending → List ℕ → List ℕ
with_ending None text = text
with_ending (Some ending) text = text ++ last_line ending

abbrev pub ended_text : Option Stop → List ℕ → List ℕ
ended_text stop text = with_ending (ending_of stop) text
