-- What a line asks of a desk, as it is read.
use Rattle.ride_model.specs.Text.{IsSpelledCommand}
use Rattle.booking_desk.specs.declared.asked.Asked.{Asked}
use Rattle.booking_desk.specs.declared.asked.Asked.TheVariants.{Book, Unbook, Clock}
use Rattle.booking_desk.specs.inner.Desk.{IsRequest}
use Rattle.booking_desk.specs.Released.{DeskCall, book, unbook, clock}

abbrev pub as_call : Asked → DeskCall
as_call (Book release request) = book release request
as_call (Unbook id) = unbook id
as_call (Clock time) = clock time

-- what is booked is a request that has a text
abbrev pub IsSpelledAsked : Asked → Type 0
IsSpelledAsked (Book release request) = IsRequest request × IsSpelledCommand 2 request
IsSpelledAsked (Unbook id) = Unit {0}
IsSpelledAsked (Clock time) = Unit {0}
