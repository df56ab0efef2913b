-- The open batches of a log's desks.
use Rattle.std.specs.Prelude.{◌≡◌, ℕ, ◌==◌, if◌then◌else◌, Option, None}
use Rattle.ride_model.specs.Seating.{BatchCopy}
use Rattle.ride_model.specs.State.{State, open_batch_of}
use Rattle.ride_model.specs.Text.{IsOneOrTwo}
use Rattle.log_audit.specs.declared.open_batches.OpenBatches.{OpenBatches}

-- the batch of desk 1 or 2
abbrev pub batch_of : OpenBatches → ℕ → Option BatchCopy
batch_of batches desk = if desk == 1 then batches.first else if desk == 2 then batches.second else None

-- with another batch of desk 1 or 2, or with none
abbrev pub with_batch : ℕ → Option BatchCopy → OpenBatches → OpenBatches
with_batch desk batch batches = if desk == 1 then record batches { first = batch } else record batches { second = batch }

-- they are the open batches of a state
abbrev pub AreOpen : State → OpenBatches → Type 0
AreOpen s batches = (desk : ℕ) → IsOneOrTwo desk → batch_of batches desk ≡ open_batch_of s desk
