-- What only lemmas and lower contracts use beside Words.antt.
use Rattle.std.specs.Prelude.{⊤, ℕ, true, List, Option, Some, map}
use Rattle.clap.specs.declared.parser.matches.ArgMatches.{ArgMatches}
use Rattle.clap.specs.Matches.{first_value, found_of}
use Rattle.clap.specs.Simple.{App, new_app, new_rule, on_top}
use Rattle.clap.specs.Walk.{Rule}
use Rattle.clap.specs.declared.builder.action.ArgAction.TheVariants.{Set}
use Rattle.run_words.specs.Words.{Asked, an_audit}

-- an option of this name that has to be given, with one value
abbrev pub option_rule : List ℕ → Rule
option_rule name = record (new_rule name) { long = Some name; required = true; action = Some Set }

-- a command of this name without options, help or version
abbrev pub bare_command : List ℕ → App
bare_command name = on_top (λ s. record s { disable_help_flag = true; disable_version_flag = true }) (new_app name)

-- the values that were found of a command's options, in order
abbrev pub found_by : App → ArgMatches → List (Option (List ℕ))
found_by command given = map (λ (rule : Rule). first_value (found_of given) rule.id) command.top.rules

-- an audit is asked for
abbrev pub IsAudit : Asked → Type 0
IsAudit (an_audit map fleet log) = ⊤
IsAudit _ = ⊥
