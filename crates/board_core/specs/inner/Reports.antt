-- Reports of vehicles.
use Rattle.std.specs.Prelude.{◌≡◌, ℕ, ◌-◌, if◌then◌else◌, nat_le, slice_set}
use Rattle.ride_model.specs.declared.reply.Reply.{Reply}
use Rattle.ride_model.specs.declared.reply.Reply.TheVariants.{OnMap, Late}
use Rattle.ride_model.specs.declared.vehicle.Vehicle.{Vehicle}
use Rattle.ride_model.specs.Keeps.{broken_of}
use Rattle.ride_model.specs.State.{State, with_vehicle}
use Rattle.ride_model.specs.Step.{reported, report}
use Rattle.board_core.specs.inner.Given.{Given}

-- the reply to a report by which a vehicle's first stop is reached at new in place of old
abbrev pub lateness_of : Vehicle → ℕ → ℕ → ℕ → Reply
lateness_of v dwell new old = if nat_le new old then OnMap else Late (new - old) (broken_of v dwell)

-- the reply to a report, and the vehicle after it
abbrev pub IsMoved : Given → Vehicle → ℕ → ℕ → Reply → Vehicle → Type 0
IsMoved setup v node time reply after = (s : State) (place : ℕ) → s.roads ≡ setup.roads → s.settings ≡ setup.settings
    → (slice_set s.vehicles place v ≡ s.vehicles)
    → report s place v (reported s node time v) v.stops.items
    ≡ record { state = with_vehicle s place after; reply = reply }
