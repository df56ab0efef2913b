-- Which versions rise by an entry of the history.
use Rattle.std.specs.Prelude.{ℕ, ◌+◌, ◌<◌, ◌^◌, ◌==◌, if◌then◌else◌, List, length, map, take, fold, slice_index_or, All, Option, Some, None, option_map}
use Rattle.ride_model.specs.declared.command.Command.{Command}
use Rattle.ride_model.specs.declared.command.Command.TheVariants.{At, Done, On, Off}
use Rattle.ride_model.specs.declared.entry.Entry.{Entry}
use Rattle.ride_model.specs.declared.entry.Event.{Event}
use Rattle.ride_model.specs.declared.entry.Event.TheVariants.{Fed, Committed}
use Rattle.ride_model.specs.declared.entry.Outcome.{Outcome}
use Rattle.ride_model.specs.declared.offer.Seat.{Seat}
use Rattle.ride_model.specs.declared.reply.Reply.{Reply}
use Rattle.ride_model.specs.declared.reply.Reply.TheVariants.{Freed, OnMap, Late, Picked, Dropped, Duty}
use Rattle.ride_model.specs.Batch.{seat_of}
use Rattle.ride_model.specs.History.{is_confirmed}

-- versions by id, of which that of a vehicle rose by one
abbrev pub raised : ℕ → List (ℕ × ℕ) → List (ℕ × ℕ)
raised id versions = map (λ (item : ℕ × ℕ). if item.0 == id then (item.0, item.1 + 1) else item) versions

-- the same of no vehicle or one
abbrev pub raised_if : Option ℕ → List (ℕ × ℕ) → List (ℕ × ℕ)
raised_if None versions = versions
raised_if (Some id) versions = raised id versions

-- the vehicle that a report is of
abbrev pub vehicle_reported : Command → Option ℕ
vehicle_reported (At vehicle node time) = Some vehicle
vehicle_reported (Done vehicle) = Some vehicle
vehicle_reported (On vehicle) = Some vehicle
vehicle_reported (Off vehicle) = Some vehicle
vehicle_reported _ = None

-- the vehicle that an answered command changes: that of an accepted report, or the one that a cancellation frees
abbrev pub vehicle_changed : Command → Reply → Option ℕ
vehicle_changed command OnMap = vehicle_reported command
vehicle_changed command (Late _ _) = vehicle_reported command
vehicle_changed command (Picked _) = vehicle_reported command
vehicle_changed command (Dropped _) = vehicle_reported command
vehicle_changed command Duty = vehicle_reported command
vehicle_changed command (Freed vehicle) = Some vehicle
vehicle_changed command _ = None

-- the vehicle of a request that a commit confirms
abbrev pub vehicle_confirmed : List Seat → ℕ × Outcome → Option ℕ
vehicle_confirmed seats item =
    if is_confirmed item.1 then option_map (λ (seat : Seat). seat.vehicle) (seat_of seats item.0) else None

-- versions after the outcomes of a commit
abbrev pub after_outcomes : List Seat → List (ℕ × Outcome) → List (ℕ × ℕ) → List (ℕ × ℕ)
after_outcomes seats outcomes versions = fold (λ so_far item. raised_if (vehicle_confirmed seats item) so_far) versions outcomes

-- versions after an event
abbrev pub after_event : Event → List (ℕ × ℕ) → List (ℕ × ℕ)
after_event (Fed command reply) versions = raised_if (vehicle_changed command reply) versions
after_event (Committed _ _ seats _ _ outcomes) versions = after_outcomes seats outcomes versions
after_event _ versions = versions

-- versions after entries
abbrev pub after_entries : List Entry → List (ℕ × ℕ) → List (ℕ × ℕ)
after_entries entries versions = fold (λ so_far (entry : Entry). after_event entry.event so_far) versions entries

-- how often at most an event raises a version
abbrev pub raises_in : Event → ℕ
raises_in (Committed _ _ _ _ _ outcomes) = length outcomes
raises_in _ = 1

-- each version has room to rise so often
abbrev pub HasRoom : ℕ → List (ℕ × ℕ) → Type 0
HasRoom many versions = All (λ (item : ℕ × ℕ). item.1 + many < 2 ^ 64) versions

-- the versions have room for each entry, when it comes
abbrev pub HasRoomFor : List Entry → List (ℕ × ℕ) → Type 0
HasRoomFor entries versions = (k : ℕ) (entry : Entry) → k < length entries
    → HasRoom (raises_in (slice_index_or entries k entry).event) (after_entries (take k entries) versions)
