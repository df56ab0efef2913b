-- Which requests an opening and an abandon change.
use Rattle.std.specs.Prelude.{ℕ, ◌==◌, Bool, false, List, Option, Some, None}
use Rattle.std.specs.Option.{option_map_or}
use Rattle.std.specs.List.{list_any}
use Rattle.ride_model.specs.declared.reply.RequestState.{RequestState}
use Rattle.ride_model.specs.declared.vehicle.Ride.{Ride}
use Rattle.ride_model.specs.Batch.{is_in_batch}

-- whether an id is that of one of the rides
abbrev pub is_of : List Ride → ℕ → Bool
is_of rides id = list_any (λ (ride : Ride). ride.id == id) rides

-- whether a state is that of a request of the batch
abbrev pub is_in : ℕ → Option RequestState → Bool
is_in number state = option_map_or (is_in_batch number) state false
