-- The plain feed that a feed with bookings gives, line by line.
use Rattle.std.specs.Prelude.{ℕ, ◌+◌, ◌==◌, if◌then◌else◌, List, [], ◌∷◌, ◌++◌, length, Option, Some, None, codes, decimal, filter_map}
use Rattle.std.specs.List.{flat_map, list_any}
use Rattle.line_text.specs.Fields.{begins_with, is_over_long}
use Rattle.ride_model.specs.declared.command.Command.{Command}
use Rattle.ride_model.specs.declared.command.Command.TheVariants.{Request}
use Rattle.ride_model.specs.declared.refusals.TheConstants.{NOT_HELD}
use Rattle.command_lines.specs.Commands.{spelling_of}
use Rattle.booking_desk.specs.declared.replies.BookReply.{BookReply}
use Rattle.booking_desk.specs.declared.replies.BookReply.TheVariants.{Held, Now, Refused}
use Rattle.booking_desk.specs.BookLines.{call_of}
use Rattle.ride_model.specs.declared.limits.TheConstants.{MOST_REQUESTS}
use Rattle.booking_desk.specs.Desk.{Booking, id_of, reply_to_book}
use Rattle.booking_desk.specs.Released.{DeskCall, book, unbook, clock, desk_after, released_at}

-- the version of the log in whose canonical spelling a request stands: with six numbers where it has no chairs, else with seven
abbrev pub spelled_for : Command → ℕ
spelled_for (Request id from to seats latest longest chairs) = if chairs == 0 then 1 else 2
spelled_for _ = 1

abbrev pub request_line : Command → List ℕ
request_line request = spelling_of (spelled_for request) request ++ 10 ∷ []

-- the line of a refusal of the line of a number
abbrev pub refusal_line : ℕ → ℕ → List ℕ
refusal_line code number = codes "# refused " ++ decimal code ++ codes " line " ++ decimal number ++ 10 ∷ []

-- what stands for an over-long line: a comment, or a bad line
abbrev pub over_long_line : List ℕ → List ℕ
over_long_line line = (if begins_with 35 line then codes "#" else codes "bad") ++ 10 ∷ []

-- what an answer to a booking on the line of a number gives
abbrev pub reply_text : BookReply → ℕ → Command → List ℕ
reply_text Held number request = []
reply_text Now number request = request_line request
reply_text (Refused code) number request = refusal_line code number

-- what the line of a number gives by what it asks of a desk after other calls: a line that asks nothing stands as it is
abbrev pub asked_text : List DeskCall → ℕ → List ℕ → Option DeskCall → List ℕ
asked_text calls number line None = line ++ 10 ∷ []
asked_text calls number line (Some (book release request)) =
    reply_text (reply_to_book (desk_after MOST_REQUESTS calls) release request) number request
asked_text calls number line (Some (unbook id)) =
    if list_any (λ booking. id_of booking == id) (desk_after MOST_REQUESTS calls).held then [] else refusal_line NOT_HELD number
asked_text calls number line (Some (clock time)) =
    (line ++ 10 ∷ []) ++ flat_map (λ (booking : Booking). request_line booking.request) (released_at MOST_REQUESTS calls time)

-- what the line of a number gives after the calls of the lines before it
abbrev pub part_of : List DeskCall → ℕ → List ℕ → List ℕ
part_of calls number line = if is_over_long line then over_long_line line else asked_text calls number line (call_of line)

-- what lines give that follow others
unfoldable pub parts_after : List (List ℕ) → List (List ℕ) → List ℕ
parts_after before [] = []
parts_after before (line ∷ lines) = part_of (filter_map call_of before) (length before + 1) line ++ parts_after (before ++ line ∷ []) lines

-- what the lines of a feed give
abbrev pub text_of_lines : List (List ℕ) → List ℕ
text_of_lines lines = parts_after [] lines

-- the last line after them: how many bookings are held
abbrev pub last_line_after : List (List ℕ) → List ℕ
last_line_after lines = codes "# held " ++ decimal (length (desk_after MOST_REQUESTS (filter_map call_of lines)).held) ++ 10 ∷ []
