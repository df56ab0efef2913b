use Rattle.ride_model.proofs.Common.{◌≡◌, take}
use Rattle.ride_model.proofs.ids.Ids.copy.Given as goal

-- the ids so far
abbrev pub invariant-loop-id : goal.invariant-loop-id
invariant-loop-id l = l.items.items ≡ take l.id-index l.ids
