-- What only lemmas and lower contracts use beside Feed.antt.
use Rattle.std.specs.Prelude.{ℕ, List, IsTrue}
use Rattle.ride_model.specs.Text.{IsSpelled, IsSpelledCommand}
use Rattle.fleet_league.specs.declared.league_session.lines.FeedLine.{FeedLine}
use Rattle.fleet_league.specs.declared.league_session.lines.FeedLine.TheVariants.{League, Company}
use Rattle.fleet_league.specs.league_session.Feed.{is_driver_report, said_from}

-- what the lines of a feed say that are neither blank nor comments, in order
abbrev pub said_in : ℕ → List (List ℕ) → List FeedLine
said_in log lines = said_from log 1 lines

-- a line whose numbers have a text, with a driver's report to a company
abbrev pub IsSpelledLine : ℕ → FeedLine → Type 0
IsSpelledLine log (League command) = IsSpelledCommand log command
IsSpelledLine log (Company company command) = IsSpelled company × IsSpelledCommand log command × IsTrue (is_driver_report command)
