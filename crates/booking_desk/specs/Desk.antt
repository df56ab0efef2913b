-- What a contract sees of a `BookingDesk`, and what each call makes of it.
use Rattle.std.specs.Prelude.{ℕ, ◌==◌, nat_lt, nat_le, Bool, if◌then◌else◌, List, ◌∷◌, ◌++◌, length, filter}
use Rattle.std.specs.List.{list_any}
use Rattle.std.specs.Ordering.{is_lt, nat_cmp, ordering_then}
use Rattle.ride_model.specs.declared.command.Command.{Command}
use Rattle.ride_model.specs.declared.command.Command.TheVariants.{Request}
use Rattle.ride_model.specs.declared.limits.TheConstants.{LATEST_TIME}
use Rattle.ride_model.specs.declared.refusals.TheConstants.{BOOKED_BEFORE, DESK_FULL, LATE_RELEASE}
use Rattle.booking_desk.specs.declared.replies.BookReply.{BookReply}
use Rattle.booking_desk.specs.declared.replies.BookReply.TheVariants.{Held, Now, Refused}

-- a booking: when its request is released, in seconds
pub record Booking : Type 0 where
  pub release : ℕ
  pub request : Command

-- a desk: how many bookings it takes, its clock, the ids that were ever booked, in order of booking, and the bookings that are
-- held, in order of release and id
pub record DeskState : Type 0 where
  pub most : ℕ
  pub clock : ℕ
  pub booked : List ℕ
  pub held : List Booking

-- the id of a request, and 0 of another command
abbrev pub request_id : Command → ℕ
request_id (Request id from to seats latest longest chairs) = id
request_id _ = 0

abbrev pub id_of : Booking → ℕ
id_of booking = request_id booking.request

-- the order of bookings: by release, and of one release by id
abbrev pub is_before : Booking → Booking → Bool
is_before a b = is_lt (ordering_then (nat_cmp a.release b.release) (nat_cmp (id_of a) (id_of b)))

-- bookings in order, with one more: those before it, it, and those after it
abbrev pub put_in : Booking → List Booking → List Booking
put_in booking bookings = filter (λ other. is_before other booking) bookings ++ booking ∷ filter (λ other. is_before booking other) bookings

-- how a booking is answered: the release is not after the latest time, the id was never booked, and the desk is not full
abbrev pub reply_to_book : DeskState → ℕ → Command → BookReply
reply_to_book desk release request = if nat_lt LATEST_TIME release then Refused LATE_RELEASE
    else (if list_any (λ id. request_id request == id) desk.booked then Refused BOOKED_BEFORE
    else (if nat_le desk.most (length desk.booked) then Refused DESK_FULL
    else (if nat_le release desk.clock then Now else Held)))
