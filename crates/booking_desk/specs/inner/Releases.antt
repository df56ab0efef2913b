-- What a desk submits to a shared board.
use Rattle.std.specs.Prelude.{◌≡◌, ℕ, ◌++◌, List, filter}
use Rattle.std.specs.List.{AllZip}
use mathlib.Core.List.{IsPrefix}
use Rattle.ride_model.specs.declared.command.Actor.TheVariants.{Feed}
use Rattle.ride_model.specs.declared.entry.Entry.{Entry}
use Rattle.ride_model.specs.declared.entry.Event.TheVariants.{Fed}
use Rattle.ride_model.specs.declared.reply.Reply.{Reply}
use Rattle.fleet_board.specs.inner.Passes.{Known}
use Rattle.booking_desk.specs.Desk.{Booking, DeskState}
use Rattle.booking_desk.specs.inner.Desk.{is_due}

-- the bookings that are due, in order
abbrev pub all_due : DeskState → List Booking
all_due desk = filter (is_due desk.clock) desk.held

-- an entry of a feed that answers the request of a booking
abbrev pub IsAnswerTo : ℕ → Booking → Entry → Type 0
IsAnswerTo feed booking entry = (reply : Reply) × (entry ≡ record { actor = Feed feed; event = Fed booking.request reply })

-- the first bookings that a desk held were submitted, each once and in order, and are no longer held; nothing else of the desk or
-- of the pass changed but that the pass has seen more
pub record HasSubmitted (desk new_desk : DeskState) (pass new_pass : Known) (released : List Booking) : Type 0 where
  pub answers : List Entry
  pub own_is : new_pass.own ≡ pass.own ++ answers
  pub answered : AllZip (IsAnswerTo pass.number) released answers
  pub goes_on : IsPrefix pass.seen new_pass.seen
  pub rest : new_pass ≡ record pass { seen = new_pass.seen; own = new_pass.own }
  pub held_were : desk.held ≡ released ++ new_desk.held
  pub desk_rest : new_desk ≡ record desk { held = new_desk.held }
