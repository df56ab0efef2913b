-- A desk that books a feed, line by line.
use Rattle.std.specs.Prelude.{◌≡◌, ℕ, true, List, ◌++◌, map, Option, Some, None}
use Rattle.std.specs.List.{AllByRecursion}
use Rattle.line_text.specs.declared.line_reader.stops.Stop.{Stop}
use Rattle.ride_model.specs.Text.{IsSpelledCommand}
use Rattle.booking_desk.specs.inner.BookText.{calls_in}
use Rattle.booking_desk.specs.BookText.{last_line_after, text_of_lines}
use Rattle.ride_model.specs.declared.limits.TheConstants.{MOST_REQUESTS}
use Rattle.booking_desk.specs.Desk.{Booking, DeskState}
use Rattle.booking_desk.specs.inner.Desk.{IsRequest, is_due}
use Rattle.booking_desk.specs.Released.{DeskCall, call_id, desk_after, made_of}
use Rattle.booking_desk.specs.inner.Released.{clock_of}

-- each booking is of a request that has a text
pub record IsSpelledBooking (booking : Booking) : Type 0 where
  pub request : IsRequest booking.request
  pub spelled : IsSpelledCommand 2 booking.request

abbrev pub AreSpelled : List Booking → Type 0
AreSpelled bookings = AllByRecursion IsSpelledBooking bookings

-- a desk after calls, at which bookings that are due are still held
abbrev pub with_due : List DeskCall → List Booking → DeskState
with_due calls due = record {
  most = MOST_REQUESTS;
  clock = clock_of calls;
  booked = map call_id (made_of MOST_REQUESTS calls);
  held = due ++ (desk_after MOST_REQUESTS calls).held;
}

abbrev pub AreDue : ℕ → List Booking → Type 0
AreDue time bookings = AllByRecursion (λ (booking : Booking). is_due time booking ≡ true) bookings

-- a desk has booked these lines, which give this text
pub record HasBooked (lines : List (List ℕ)) (text : List ℕ) (desk : DeskState) : Type 0 where
  pub text_is : text ≡ text_of_lines lines
  pub desk_is : desk ≡ desk_after MOST_REQUESTS (calls_in lines)
  pub spelled : AreSpelled desk.held

-- what the lines of a feed give that was stopped, or was not
abbrev pub run_text : Option Stop → List (List ℕ) → List ℕ
run_text None lines = text_of_lines lines ++ last_line_after lines
run_text (Some stop) lines = text_of_lines lines
