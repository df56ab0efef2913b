-- The lines of a feed, and the commands of all its bytes.
use Rattle.std.specs.Prelude.{ℕ, ◌+◌, ◌==◌, if◌then◌else◌, List, [], ◌∷◌, Option, Some, None, option_and_then, unwrap_or, codes}
use Rattle.std.specs.List.{cons_option, join_with_byte}
use Rattle.std.specs.Str.{bytes_eq}
use Rattle.line_text.specs.Fields.{numbers_of, words_of}
use Rattle.line_text.specs.Lines.{lines_of}
use Rattle.ride_model.specs.declared.command.Command.{Command}
use Rattle.ride_model.specs.declared.command.Command.TheVariants.{Request, Cancel, At, Done, On, Off, Clock, Ask, Bad}
use Rattle.ride_model.specs.Text.{command_fields}
use Rattle.command_lines.specs.declared.verbs.Verb.{Verb}
use Rattle.command_lines.specs.declared.verbs.Verb.TheVariants.{Request as ToRequest, Cancel as ToCancel, At as ToBeAt, Done as ToBeDone, On as ToBeOn, Off as ToBeOff, Clock as ToClock, Batch as ToBatch}

-- what a first field asks for
abbrev pub verb_of : List ℕ → Option Verb
verb_of word = if bytes_eq word (codes "request") then Some ToRequest
    else (if bytes_eq word (codes "cancel") then Some ToCancel
    else (if bytes_eq word (codes "at") then Some ToBeAt
    else (if bytes_eq word (codes "done") then Some ToBeDone
    else (if bytes_eq word (codes "on") then Some ToBeOn
    else (if bytes_eq word (codes "off") then Some ToBeOff
    else (if bytes_eq word (codes "clock") then Some ToClock
    else (if bytes_eq word (codes "batch") then Some ToBatch
    else None)))))))

-- the command of a verb and its numbers. With version 2 of the log a request may have a seventh number, its chairs
abbrev pub command_from : ℕ → Verb → List ℕ → Option Command
command_from log ToRequest (id ∷ from ∷ to ∷ seats ∷ latest ∷ longest ∷ []) = Some (Request id from to seats latest longest 0)
command_from log ToRequest (id ∷ from ∷ to ∷ seats ∷ latest ∷ longest ∷ chairs ∷ []) =
    if log == 2 then Some (Request id from to seats latest longest chairs) else None
command_from log ToCancel (id ∷ []) = Some (Cancel id)
command_from log ToBeAt (vehicle ∷ node ∷ time ∷ []) = Some (At vehicle node time)
command_from log ToBeDone (vehicle ∷ []) = Some (Done vehicle)
command_from log ToBeOn (vehicle ∷ []) = Some (On vehicle)
command_from log ToBeOff (vehicle ∷ []) = Some (Off vehicle)
command_from log ToClock (time ∷ []) = Some (Clock time)
command_from log ToBatch [] = Some Ask
command_from _ _ _ = None

-- the command that fields spell
abbrev pub command_of_fields : ℕ → List (List ℕ) → Option Command
command_of_fields log [] = None
command_of_fields log (word ∷ fields) = option_and_then (λ verb. option_and_then (command_from log verb) (numbers_of fields)) (verb_of word)

-- what a line of a feed says by its words: nothing where it is blank or a comment, else what its fields spell, or that it is bad
abbrev pub said_by_words : {A : Type 0} → (List (List ℕ) → Option A) → A → Option (List (List ℕ)) → Option A
said_by_words spelled bad None = Some bad
said_by_words spelled bad (Some []) = None
said_by_words spelled bad (Some (word ∷ fields)) = Some (unwrap_or (spelled (word ∷ fields)) bad)

-- what the line of this number says. Comments begin with `#`
abbrev pub said_by : ℕ → ℕ → List ℕ → Option Command
said_by log number line = said_by_words (command_of_fields log) (Bad number) (words_of 35 line)

-- the commands of lines of which the first has this number
unfoldable pub commands_from : ℕ → ℕ → List (List ℕ) → List Command
commands_from log number [] = []
commands_from log number (line ∷ lines) = cons_option (said_by log number line) (commands_from log (number + 1) lines)

-- the commands of a feed's bytes
abbrev pub commands_of : ℕ → List ℕ → List Command
commands_of log bytes = commands_from log 1 (lines_of bytes)

-- the canonical spelling of a command: one blank between fields, numbers without leading zeros
abbrev pub spelling_of : ℕ → Command → List ℕ
spelling_of log command = join_with_byte 32 (command_fields log command)
