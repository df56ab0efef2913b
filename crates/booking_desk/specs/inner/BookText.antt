-- What only lemmas and lower contracts use beside BookLines.antt and BookText.antt.
use Rattle.std.specs.Prelude.{◌≡◌, ℕ, List, [], ◌∷◌, ◌++◌, filter_map, Result, MatchResult}
use Rattle.std.specs.List.{flat_map}
use mathlib.Core.List.{IsPrefix}
use Rattle.booking_desk.specs.BookLines.{call_of}
use Rattle.booking_desk.specs.BookText.{request_line}
use Rattle.booking_desk.specs.Desk.{Booking}
use Rattle.booking_desk.specs.Released.{DeskCall}

-- what lines ask of a desk
abbrev pub calls_in : List (List ℕ) → List DeskCall
calls_in lines = filter_map call_of lines

-- bytes as a line
abbrev pub with_lf : List ℕ → List ℕ
with_lf bytes = bytes ++ 10 ∷ []

-- the lines of requests that are released
abbrev pub released_text : List Booking → List ℕ
released_text bookings = flat_map (λ (booking : Booking). request_line booking.request) bookings

-- a text was put after what stood on a page, or a part of it, where memory was wanting
abbrev pub PutsOn : {T E : Type 0} → Result T E → List ℕ → List ℕ → List ℕ → Type 0
PutsOn result before after text = MatchResult result (λ _. after ≡ before ++ text) (λ _. IsPrefix before after)
