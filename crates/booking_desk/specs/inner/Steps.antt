-- What a list of steps takes from a desk.
use Rattle.std.specs.Prelude.{◌≡◌, List, [], ◌∷◌, Option, Some, None}
use Rattle.booking_desk.specs.Desk.{Booking, DeskState}
use Rattle.booking_desk.specs.inner.Desk.{after_book, after_clock, after_take, after_unbook, due_of}
use Rattle.booking_desk.specs.Released.{DeskCall, book, unbook, clock}

-- a call of a desk, or the taking of the first booking that is due
pub data DeskStep : Type 0 where
  call : DeskCall → DeskStep
  take_due : DeskStep

abbrev pub after_call : DeskState → DeskCall → DeskState
after_call desk (book release request) = after_book desk release request
after_call desk (unbook id) = after_unbook desk id
after_call desk (clock time) = after_clock desk time

-- a desk after a step; where none is due, nothing is taken
abbrev pub after_step : DeskState → DeskStep → DeskState
after_step desk (call c) = after_call desk c
after_step desk take_due = after_take desk

abbrev pub after_steps : DeskState → List DeskStep → DeskState
after_steps desk [] = desk
after_steps desk (step ∷ steps) = after_steps (after_step desk step) steps

-- a booking, where there is one, before others
abbrev pub before : Option Booking → List Booking → List Booking
before None bookings = bookings
before (Some booking) bookings = booking ∷ bookings

-- the bookings that steps take, in order
abbrev pub taken_by : DeskState → List DeskStep → List Booking
taken_by desk [] = []
taken_by desk (call c ∷ steps) = taken_by (after_call desk c) steps
taken_by desk (take_due ∷ steps) = before (due_of desk) (taken_by (after_take desk) steps)

-- the calls among steps
abbrev pub calls_of : List DeskStep → List DeskCall
calls_of [] = []
calls_of (call c ∷ steps) = c ∷ calls_of steps
calls_of (take_due ∷ steps) = calls_of steps

-- nothing is due when a call is made, nor at the end: all that are due are taken after each call
abbrev pub TakesAllDue : DeskState → List DeskStep → Type 0
TakesAllDue desk [] = due_of desk ≡ None
TakesAllDue desk (call c ∷ steps) = (due_of desk ≡ None) × TakesAllDue (after_call desk c) steps
TakesAllDue desk (take_due ∷ steps) = TakesAllDue (after_take desk) steps
