-- Promises to riders over a history.
use Rattle.std.specs.Prelude.{ℕ, ◌+◌, ◌≤◌, ◌==◌, ⊤, Bool, List, [], ◌∷◌, ◌++◌, All, IfSome, IsFalse}
use Rattle.std.specs.List.{list_any}
use Rattle.ride_model.specs.declared.command.Command.TheVariants.{Done}
use Rattle.ride_model.specs.declared.entry.Entry.{Entry}
use Rattle.ride_model.specs.declared.entry.Event.{Event}
use Rattle.ride_model.specs.declared.entry.Event.TheVariants.{Fed}
use Rattle.ride_model.specs.declared.reply.Reply.TheVariants.{Late, Picked, Dropped}
use Rattle.ride_model.specs.declared.vehicle.Ride.{Ride}
use Rattle.ride_model.specs.declared.vehicle.Vehicle.{Vehicle}
use Rattle.ride_model.specs.Vehicle.{IsLawful}
use Rattle.ride_model.specs.Keeps.{breaks_ride}
use Rattle.ride_model.specs.Seating.{find_ride, find_vehicle}
use Rattle.ride_model.specs.State.{State}
use Rattle.ride_model.specs.Legal.{after_entry}

-- the rides that an event names as broken: only a late report names any
abbrev pub broken_by : Event → List ℕ
broken_by (Fed _ (Late _ broken)) = broken
broken_by _ = []

-- whether a ride was named by a late report, from which on its limits may be exceeded
abbrev pub is_late : List ℕ → ℕ → Bool
is_late late id = list_any (λ other. other == id) late

-- what holds of a ride of a vehicle, where both are there and the ride was not named late
abbrev pub OfRide : State → List ℕ → ℕ → ℕ → (Vehicle → Ride → Type 0) → Type 0
OfRide s late vehicle id P =
    IsFalse (is_late late id) → IfSome (find_vehicle s.vehicles vehicle) (λ v. IfSome (find_ride v.rides.items id) (P v))

-- a served stop of a ride that was not named late is in time, at the state before it: a pickup by the ride's latest, a drop-off by its longest
abbrev pub KeepsEvent : State → List ℕ → Event → Type 0
KeepsEvent s late (Fed (Done vehicle) (Picked id)) = OfRide s late vehicle id (λ v ride. v.ready ≤ ride.latest)
KeepsEvent s late (Fed (Done vehicle) (Dropped id)) =
    OfRide s late vehicle id (λ v ride. IfSome ride.picked (λ picked. v.ready ≤ picked + ride.longest))
KeepsEvent s late _ = ⊤

-- a vehicle's times from its ready time keep the limits of its rides that were not named late
abbrev pub KeepsTimes : State → List ℕ → Vehicle → Type 0
KeepsTimes s late v = All (λ (ride : Ride). IsFalse (is_late late ride.id) → IsFalse (breaks_ride v s.settings.dwell ride)) v.rides.items

-- at a state every vehicle is lawful, its loads included, and its times keep what was promised
pub record KeepsState (s : State) (late : List ℕ) : Type 0 where
  pub lawful : All (IsLawful s.roads) s.vehicles
  pub times : All (KeepsTimes s late) s.vehicles

-- the promises are kept from a state on, where these rides were named late before
abbrev pub KeepsFrom : State → List ℕ → List Entry → Type 0
KeepsFrom s late [] = KeepsState s late
KeepsFrom s late (entry ∷ entries) =
    KeepsState s late × KeepsEvent s late entry.event × KeepsFrom (after_entry s entry) (late ++ broken_by entry.event) entries

-- the promises are kept over a history: a late report that names a ride is the only event after which one of its limits
-- may be exceeded
unfoldable pub KeepsPromises : State → List Entry → Type 0
KeepsPromises start entries = KeepsFrom start [] entries
