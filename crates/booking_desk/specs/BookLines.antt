-- What the lines of a feed with bookings ask of a desk.
use Rattle.std.specs.Prelude.{ℕ, nat_lt, if◌then◌else◌, List, [], ◌∷◌, Option, Some, None, option_map, option_and_then, codes}
use Rattle.std.specs.Str.{bytes_eq}
use Rattle.line_text.specs.Fields.{fields_of, is_over_long, numbers_of}
use Rattle.command_lines.specs.declared.verbs.Verb.TheVariants.{Request as ToRequest}
use Rattle.command_lines.specs.Commands.{command_from}
use Rattle.ride_model.specs.declared.limits.TheConstants.{LATEST_TIME}
use Rattle.booking_desk.specs.Released.{DeskCall, book, unbook, clock}

-- a booking: its release, and the six or seven numbers of its request
abbrev pub booking_of : List ℕ → Option DeskCall
booking_of [] = None
booking_of (release ∷ numbers) = option_map (book release) (command_from 2 ToRequest numbers)

-- what is asked by a number that stands alone
abbrev pub by_one : (ℕ → Option DeskCall) → List ℕ → Option DeskCall
by_one asked (number ∷ []) = asked number
by_one asked _ = None

-- what fields ask of a desk. A moment is a time of at most 10^9
abbrev pub call_of_fields : List (List ℕ) → Option DeskCall
call_of_fields [] = None
call_of_fields (word ∷ fields) = if bytes_eq word (codes "book") then option_and_then booking_of (numbers_of fields)
    else if bytes_eq word (codes "unbook") then option_and_then (by_one (λ id. Some (unbook id))) (numbers_of fields)
    else if bytes_eq word (codes "clock")
    then option_and_then (by_one (λ time. if nat_lt LATEST_TIME time then None else Some (clock time))) (numbers_of fields) else None

-- what a line asks of a desk. A line of more than 200 bytes asks nothing
abbrev pub call_of : List ℕ → Option DeskCall
call_of line = if is_over_long line then None else call_of_fields (fields_of line)
