use Rattle.ride_model.proofs.Common.{◌≡◌, take}
use Rattle.ride_model.proofs.vehicle.copy_of.Given as goal

-- those so far are copied
abbrev pub invariant-loop-item : goal.invariant-loop-item
invariant-loop-item g l = l.copy.items ≡ take l.item-index l.items
