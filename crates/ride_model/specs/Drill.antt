-- The order of a drill's history: what feed 1 gives, and what the map drivers report as feed 2.
use Rattle.std.specs.Prelude.{◌≡◌, ℕ, ◌+◌, ◌==◌, if◌then◌else◌, nat_lt, nat_le, List, [], ◌∷◌, slice_get, Option, Some, None}
use Rattle.ride_model.specs.declared.command.Actor.{Actor}
use Rattle.ride_model.specs.declared.command.Actor.TheVariants.{Feed, Desk}
use Rattle.ride_model.specs.declared.command.Command.{Command}
use Rattle.ride_model.specs.declared.command.Command.TheVariants.{At, Done}
use Rattle.ride_model.specs.declared.entry.Ending.TheVariants.{Whole}
use Rattle.ride_model.specs.declared.entry.Entry.{Entry}
use Rattle.ride_model.specs.declared.entry.Event.{Event}
use Rattle.ride_model.specs.declared.entry.Event.TheVariants.{Fed, Finish, Opened, Committed}
use Rattle.ride_model.specs.declared.offer.Seat.{Seat}
use Rattle.ride_model.specs.declared.entry.Outcome.{Outcome}
use Rattle.ride_model.specs.declared.reply.Reply.{Reply}
use Rattle.ride_model.specs.declared.vehicle.Stop.{Stop}
use Rattle.ride_model.specs.declared.vehicle.Vehicle.{Vehicle}
use Rattle.ride_model.specs.State.{State}
use Rattle.ride_model.specs.Legal.{after_entry, IsLegal}
use Rattle.ride_model.specs.History.{IsDirect, IsFinished}

-- the report of a driver whose vehicle has these stops before it
abbrev pub report_of : Vehicle → ℕ → List Stop → Option Command
report_of v clock [] = None
report_of v clock (first ∷ _) = let time = v.ready + first.leg in
    if nat_le time clock then (if v.at == first.node then Some (Done v.id) else Some (At v.id first.node time))
    else (if nat_lt v.ready clock then Some (At v.id first.node time) else None)

-- what a map driver reports next: the first stop is served where the vehicle is there by the clock, else it is reported at
-- its time, where that is not after the clock or the vehicle's ready time is before the clock
abbrev pub next_report : Vehicle → ℕ → Option Command
next_report v clock = report_of v clock v.stops.items

-- what a drill goes through: a command of feed 1, the reports of the vehicle at a place, the whole end of an actor
pub data DrillStep : Type 0 where
  give : Command → DrillStep
  drive : ℕ → DrillStep
  end : Actor → DrillStep

abbrev pub entry_of : Actor → Event → Entry
entry_of actor event = record { actor = actor; event = event }

-- a history from a state on goes through these steps in order; what desk 1 does, its openings and commits, stands between them
pub data Follows : State → List DrillStep → List Entry → Type 0 where
  done : {s : State} → Follows s [] []
  given : {s : State} {command : Command} {reply : Reply} {steps : List DrillStep} {entries : List Entry}
      → Follows (after_entry s (entry_of (Feed 1) (Fed command reply))) steps entries
      → Follows s (give command ∷ steps) (entry_of (Feed 1) (Fed command reply) ∷ entries)
  reported : {s : State} {place : ℕ} {v : Vehicle} {command : Command} {reply : Reply} {steps : List DrillStep} {entries : List Entry}
      → slice_get s.vehicles place ≡ Some v → next_report v s.clock ≡ Some command
      → Follows (after_entry s (entry_of (Feed 2) (Fed command reply))) (drive place ∷ steps) entries
      → Follows s (drive place ∷ steps) (entry_of (Feed 2) (Fed command reply) ∷ entries)
  rested : {s : State} {place : ℕ} {v : Vehicle} {steps : List DrillStep} {entries : List Entry}
      → slice_get s.vehicles place ≡ Some v → next_report v s.clock ≡ None
      → Follows s steps entries → Follows s (drive place ∷ steps) entries
  ended : {s : State} {actor : Actor} {steps : List DrillStep} {entries : List Entry}
      → Follows (after_entry s (entry_of actor (Finish Whole))) steps entries
      → Follows s (end actor ∷ steps) (entry_of actor (Finish Whole) ∷ entries)
  worked : {s : State} {event : Event} {steps : List DrillStep} {entries : List Entry}
      → Follows (after_entry s (entry_of (Desk 1) event)) steps entries → Follows s steps (entry_of (Desk 1) event ∷ entries)

-- a history of a drill: legal with two feeds and one desk, direct, finished, and in the order of its steps
pub record IsDrilled (start : State) (steps : List DrillStep) (entries : List Entry) : Type 0 where
  pub legal : IsLegal 2 1 start entries
  pub direct : IsDirect entries
  pub finished : IsFinished 2 1 start entries
  pub in_order : Follows start steps entries
