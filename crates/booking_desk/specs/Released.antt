-- Which bookings are released at which moment, said over the list of calls alone, by a filter and a sort for each moment.
use Rattle.std.specs.Prelude.{ℕ, ◌+◌, ◌==◌, ◌&&◌, not, nat_lt, nat_le, max, Bool, false, if◌then◌else◌, List, [], ◌∷◌, filter, map, take, drop}
use Rattle.std.specs.List.{fold, list_any}
use Rattle.ride_model.specs.declared.command.Command.{Command}
use Rattle.ride_model.specs.declared.limits.TheConstants.{LATEST_TIME}
use Rattle.booking_desk.specs.Desk.{Booking, DeskState, put_in, request_id}

-- a call of a desk
pub data DeskCall : Type 0 where
  book : ℕ → Command → DeskCall
  unbook : ℕ → DeskCall
  clock : ℕ → DeskCall

-- a call of `book` for a release of at most 10^9, and its place among the calls
pub record BookCall : Type 0 where
  pub place : ℕ
  pub booking : Booking

abbrev pub call_id : BookCall → ℕ
call_id call = request_id call.booking.request

-- the greatest of a time and of the times of these calls
abbrev pub greatest_clock : ℕ → List DeskCall → ℕ
greatest_clock least [] = least
greatest_clock least (clock time ∷ calls) = greatest_clock (max least time) calls
greatest_clock least (_ ∷ calls) = greatest_clock least calls

-- the calls of `book` for a release of at most 10^9, where the first call has this place
abbrev pub book_calls : ℕ → List DeskCall → List BookCall
book_calls place [] = []
book_calls place (book release request ∷ calls) = if nat_lt LATEST_TIME release then book_calls (place + 1) calls
    else record { place = place; booking = record { release = release; request = request } } ∷ book_calls (place + 1) calls
book_calls place (_ ∷ calls) = book_calls (place + 1) calls

-- the first call for each id
abbrev pub first_of_each_id : List BookCall → List BookCall
first_of_each_id [] = []
first_of_each_id (call ∷ calls) = call ∷ filter (λ other. not (call_id other == call_id call)) (first_of_each_id calls)

-- the calls by which a booking is made, at a desk of at most so many: the first for each id, as many as there is room for
abbrev pub made_of : ℕ → List DeskCall → List BookCall
made_of most calls = take most (first_of_each_id (book_calls 0 calls))

abbrev pub is_unbook : ℕ → DeskCall → Bool
is_unbook id (unbook other) = id == other
is_unbook id _ = false

-- the bookings that were made and not unbooked, in order of booking
abbrev pub standing : ℕ → List DeskCall → List Booking
standing most calls = map (λ (call : BookCall). call.booking)
    (filter (λ call. not (list_any (is_unbook (call_id call)) (drop call.place calls))) (made_of most calls))

-- bookings in order of release and, of one release, of id: each is put into those before it
abbrev pub sorted : List Booking → List Booking
sorted bookings = fold (λ before booking. put_in booking before) [] bookings

-- what is released at the moment after these calls at which the clock is set: those whose release has come by then, and had
-- not come before
abbrev pub released_at : ℕ → List DeskCall → ℕ → List Booking
released_at most calls time =
    filter (λ (booking : Booking). nat_lt (greatest_clock 0 calls) booking.release && nat_le booking.release (max (greatest_clock 0 calls) time))
    (sorted (standing most calls))

-- a desk after these calls, where all that were due were taken after each
abbrev pub desk_after : ℕ → List DeskCall → DeskState
desk_after most calls = record {
  most = most;
  clock = greatest_clock 0 calls;
  booked = map call_id (made_of most calls);
  held = filter (λ (booking : Booking). nat_lt (greatest_clock 0 calls) booking.release) (sorted (standing most calls));
}
