-- Small runs: commands of a feed, and batches of desk 1 that are opened and committed at once.
use Rattle.std.specs.Prelude.{ℕ, List, [], ◌∷◌}
use Rattle.ride_model.specs.declared.command.Command.{Command}
use Rattle.ride_model.specs.declared.command.Command.TheVariants.{Request}
use Rattle.ride_model.specs.declared.offer.Seat.{Seat}
use Rattle.ride_model.specs.declared.reply.Reply.{Reply}
use Rattle.ride_model.specs.declared.settings.Settings.{Settings}
use Rattle.ride_model.specs.declared.vehicle.Vehicle.{Vehicle}
use Rattle.ride_model.specs.State.{State, start_state}
use Rattle.ride_model.specs.Step.{step}
use Rattle.ride_model.specs.Batch.{next_batch, after_opening, after_commit}
use Rattle.plan_trials.specs.worked_rows.Roads.{four_nodes}

-- a command of the feed, or a batch committed by these seats
pub data Deed : Type 0 where
  feed : Command → Deed
  seated : List Seat → Deed

-- the replies to the commands, in order
abbrev pub replies_from : State → List Deed → List Reply
replies_from s [] = []
replies_from s (feed command ∷ deeds) = (step s command).reply ∷ replies_from (step s command).state deeds
replies_from s (seated seats ∷ deeds) =
    replies_from (after_commit (next_batch s 1) seats (after_opening s (next_batch s 1))) deeds

-- the replies over the road of four nodes
abbrev pub replies : Settings → List Vehicle → List Deed → List Reply
replies settings vehicles deeds = replies_from (start_state four_nodes settings vehicles) deeds

-- a request of one seat
abbrev pub request : ℕ → ℕ → ℕ → ℕ → ℕ → Deed
request id from to latest longest = feed (Request id from to 1 latest longest 0)

abbrev pub seat : ℕ → ℕ → ℕ → ℕ → Seat
seat request vehicle i j = record { request = request; vehicle = vehicle; i = i; j = j }
