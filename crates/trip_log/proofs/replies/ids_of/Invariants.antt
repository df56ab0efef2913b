use Rattle.trip_log.proofs.Common.{◌≡◌, take}
use Rattle.trip_log.proofs.replies.ids_of.Given as goal

abbrev pub invariant-loop-id : goal.invariant-loop-id
invariant-loop-id l = l.list ≡ take l.id-index l.ids
