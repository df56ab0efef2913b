-- What a desk gets that asks for a batch, and which commands may find no memory.
use Rattle.std.specs.Prelude.{ℕ, ⊤, if◌then◌else◌, nat_lt}
use Rattle.ride_model.specs.declared.command.Command.{Command}
use Rattle.ride_model.specs.declared.command.Command.TheVariants.{Request}
use Rattle.ride_model.specs.Batch.{next_batch}
use Rattle.ride_model.specs.Legal.{all_feeds_ended}
use Rattle.ride_model.specs.State.{State}
use Rattle.board_core.specs.declared.opening.Opening.{Opening}
use Rattle.board_core.specs.declared.opening.Opening.TheVariants.{Batch, Idle, Ended}

-- the next batch where one was asked for; else whether one may yet be asked for
abbrev pub opening_at : ℕ → State → ℕ → Opening
opening_at feeds s desk =
    if nat_lt s.opened s.asked then Batch (next_batch s desk)
    else if all_feeds_ended feeds s then Ended
    else Idle

-- a rider asks for a ride
abbrev pub IsRequest : Command → Type 0
IsRequest (Request id from to seats latest longest chairs) = ⊤
IsRequest _ = ⊥
