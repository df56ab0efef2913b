-- What the lines of a league's feed say.
use Rattle.std.specs.Prelude.{ℕ, ◌+◌, if◌then◌else◌, Bool, true, false, List, [], ◌∷◌, Option, Some, None, option_and_then, option_map, codes}
use Rattle.std.specs.Str.{bytes_eq}
use Rattle.std.specs.List.{cons_option}
use Rattle.line_text.specs.Fields.{words_of}
use Rattle.line_text.specs.Numbers.{number_of}
use Rattle.ride_model.specs.declared.command.Command.{Command}
use Rattle.ride_model.specs.declared.command.Command.TheVariants.{Request, Cancel, At, Done, On, Off, Clock, Ask, Bad}
use Rattle.command_lines.specs.Commands.{command_of_fields, said_by_words}
use Rattle.fleet_league.specs.declared.league_session.lines.FeedLine.{FeedLine}
use Rattle.fleet_league.specs.declared.league_session.lines.FeedLine.TheVariants.{League, Company}

-- whether the league takes a command
abbrev pub is_league_command : Command → Bool
is_league_command (Request id from to seats latest longest chairs) = true
is_league_command (Cancel id) = true
is_league_command (Clock time) = true
is_league_command Ask = true
is_league_command _ = false

-- whether a company takes a command as its own: a report of a driver
abbrev pub is_driver_report : Command → Bool
is_driver_report (At vehicle node time) = true
is_driver_report (Done vehicle) = true
is_driver_report (On vehicle) = true
is_driver_report (Off vehicle) = true
is_driver_report _ = false

-- a command, where it is such a one
abbrev pub only : (Command → Bool) → Command → Option Command
only is_one command = if is_one command then Some command else None

-- the command to the league that fields spell
abbrev pub league_line_of : ℕ → List (List ℕ) → Option FeedLine
league_line_of log fields = option_map (λ command. League command) (option_and_then (only is_league_command) (command_of_fields log fields))

-- the report to a company that fields spell: the company's number, and then a report of a driver
abbrev pub company_line_of : ℕ → List (List ℕ) → Option FeedLine
company_line_of log [] = None
company_line_of log (field ∷ fields) = option_and_then (λ company. option_map (λ command. Company company command)
    (option_and_then (only is_driver_report) (command_of_fields log fields))) (number_of field)

-- what fields say, if they are no bad line
abbrev pub line_of_fields : ℕ → List (List ℕ) → Option FeedLine
line_of_fields log [] = None
line_of_fields log (word ∷ fields) =
    if bytes_eq word (codes "company") then company_line_of log fields else league_line_of log (word ∷ fields)

-- what the line of this number says. Comments begin with `#`
abbrev pub said_by : ℕ → ℕ → List ℕ → Option FeedLine
said_by log number line = said_by_words (line_of_fields log) (League (Bad number)) (words_of 35 line)

-- what lines say that are neither blank nor comments, in order, where the first has this number
unfoldable pub said_from : ℕ → ℕ → List (List ℕ) → List FeedLine
said_from log number [] = []
said_from log number (line ∷ lines) = cons_option (said_by log number line) (said_from log (number + 1) lines)
