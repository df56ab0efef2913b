-- Which requests are closed, and by what.
use Rattle.std.specs.Prelude.{ℕ, ◌==◌, ◌&&◌, if◌then◌else◌, Bool, true, false, List, count_by, sum_by}
use Rattle.ride_model.specs.declared.command.Command.TheVariants.{Cancel}
use Rattle.ride_model.specs.declared.entry.Entry.{Entry}
use Rattle.ride_model.specs.declared.entry.Event.{Event}
use Rattle.ride_model.specs.declared.entry.Event.TheVariants.{Fed, Committed}
use Rattle.ride_model.specs.declared.entry.Outcome.{Outcome}
use Rattle.ride_model.specs.declared.reply.Reply.TheVariants.{Cancelled, Freed, Dropped}
use Rattle.ride_model.specs.declared.reply.RequestState.{RequestState}
use Rattle.ride_model.specs.declared.reply.RequestState.TheVariants.{Done as DoneState, Away as AwayState, Cancelled as CancelledState}
use Rattle.ride_model.specs.History.{is_away}

-- whether a request is closed: its rider was dropped, it was turned away, or it was cancelled
abbrev pub is_closed : RequestState → Bool
is_closed DoneState = true
is_closed (AwayState _) = true
is_closed CancelledState = true
is_closed _ = false

-- how often an event closes the request of an id
abbrev pub closings_in : ℕ → Event → ℕ
closings_in id (Fed (Cancel request) Cancelled) = if request == id then 1 else 0
closings_in id (Fed (Cancel request) (Freed _)) = if request == id then 1 else 0
closings_in id (Fed _ (Dropped ride)) = if ride == id then 1 else 0
closings_in id (Committed _ _ _ _ _ outcomes) = count_by (λ (item : ℕ × Outcome). item.0 == id && is_away item.1) outcomes
closings_in id _ = 0

-- how often a history closes the request of an id
abbrev pub closings_of : ℕ → List Entry → ℕ
closings_of id entries = sum_by (λ (entry : Entry). closings_in id entry.event) entries
