use Rattle.board_core.proofs.Common.{◌≡◌, take, ride_ids, still_in}
use Rattle.board_core.proofs.service.waiting.standing.Given as goal

-- those so far that are still in the batch
abbrev pub invariant-loop-ride : goal.invariant-loop-ride
invariant-loop-ride l = l.ids.items ≡ ride_ids (still_in l.requests l.number (take l.ride-index l.rides))
