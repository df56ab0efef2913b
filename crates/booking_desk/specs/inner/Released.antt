-- What only lemmas and lower contracts use beside Released.antt.
use Rattle.std.specs.Prelude.{ℕ, Bool, List, [], ◌∷◌, ◌++◌, drop}
use Rattle.std.specs.List.{list_any}
use Rattle.booking_desk.specs.Desk.{Booking}
use Rattle.booking_desk.specs.Released.{BookCall, DeskCall, book, unbook, clock, call_id, greatest_clock, is_unbook, released_at}

-- the greatest of the times of calls
abbrev pub clock_of : List DeskCall → ℕ
clock_of calls = greatest_clock 0 calls

-- whether the booking of an id that was made by the call at a place was unbooked after it
abbrev pub is_unbooked : List DeskCall → BookCall → Bool
is_unbooked calls call = list_any (is_unbook (call_id call)) (drop call.place calls)

-- what is released by calls that follow others, moment by moment
abbrev pub released_after : ℕ → List DeskCall → List DeskCall → List Booking
released_after most before [] = []
released_after most before (clock time ∷ calls) = released_at most before time ++ released_after most (before ++ clock time ∷ []) calls
released_after most before (book release request ∷ calls) = released_after most (before ++ book release request ∷ []) calls
released_after most before (unbook id ∷ calls) = released_after most (before ++ unbook id ∷ []) calls

-- what is released by calls of a new desk
abbrev pub released_of : ℕ → List DeskCall → List Booking
released_of most calls = released_after most [] calls
