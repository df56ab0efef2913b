-- What only lemmas and lower contracts use beside Desk.antt.
use Rattle.std.specs.Prelude.{ℕ, ◌≤◌, ◌==◌, not, nat_le, max, Bool, List, [], ◌∷◌, ◌++◌, length, filter, find, map, All, AllPairs, Contains, Option, IsTrue, nat_eq}
use Rattle.std.specs.List.{IsDistinct, list_any}
use Rattle.std.specs.Option.{option_map_or}
use Rattle.ride_model.specs.declared.command.Command.{Command}
use Rattle.ride_model.specs.declared.command.Command.TheVariants.{Request}
use Rattle.booking_desk.specs.declared.replies.BookReply.{BookReply}
use Rattle.booking_desk.specs.declared.replies.BookReply.TheVariants.{Held, Now, Refused}
use Rattle.ride_model.specs.declared.limits.TheConstants.{MOST_REQUESTS}
use Rattle.booking_desk.specs.Desk.{Booking, DeskState, request_id, id_of, is_before, put_in, reply_to_book}

-- a desk that nothing was booked at
abbrev pub new_desk : ℕ → DeskState
new_desk most = record { most = most; clock = 0; booked = []; held = [] }

abbrev pub is_booked : ℕ → List ℕ → Bool
is_booked id booked = list_any (λ other. id == other) booked

abbrev pub is_held : ℕ → List Booking → Bool
is_held id bookings = list_any (λ booking. id_of booking == id) bookings

abbrev pub IsRequest : Command → Type 0
IsRequest (Request id from to seats latest longest chairs) = Unit {0}
IsRequest _ = ⊥

-- the bookings but the one of an id
abbrev pub without : ℕ → List Booking → List Booking
without id bookings = filter (λ booking. not (id_of booking == id)) bookings

-- a desk after a booking was answered so
abbrev pub after_reply : BookReply → DeskState → ℕ → Command → DeskState
after_reply Held desk release request =
    record desk { booked = desk.booked ++ request_id request ∷ []; held = put_in (record { release = release; request = request }) desk.held }
after_reply Now desk release request = record desk { booked = desk.booked ++ request_id request ∷ [] }
after_reply (Refused code) desk release request = desk

abbrev pub after_book : DeskState → ℕ → Command → DeskState
after_book desk release request = after_reply (reply_to_book desk release request) desk release request

abbrev pub after_unbook : DeskState → ℕ → DeskState
after_unbook desk id = record desk { held = without id desk.held }

abbrev pub after_clock : DeskState → ℕ → DeskState
after_clock desk time = record desk { clock = max desk.clock time }

-- a booking is due where its release is at most the clock
abbrev pub is_due : ℕ → Booking → Bool
is_due clock booking = nat_le booking.release clock

-- the first booking that is due
abbrev pub due_of : DeskState → Option Booking
due_of desk = find (is_due desk.clock) desk.held

-- the first booking that is due is no longer held
abbrev pub after_take : DeskState → DeskState
after_take desk = option_map_or (λ booking. after_unbook desk (id_of booking)) (due_of desk) desk

-- a desk of at most 100,000 bookings: what is held are requests that were booked, of distinct ids and in order
pub record IsDesk (desk : DeskState) : Type 0 where
  pub few : length desk.booked ≤ desk.most
  pub most_few : desk.most ≤ MOST_REQUESTS
  pub few_held : length desk.held ≤ length desk.booked
  pub requests : All (λ (booking : Booking). IsRequest booking.request) desk.held
  pub were_booked : All (λ (booking : Booking). Contains desk.booked (id_of booking)) desk.held
  pub ids_differ : IsDistinct nat_eq (map id_of desk.held)
  pub in_order : AllPairs (λ (a b : Booking). IsTrue (is_before a b)) desk.held
