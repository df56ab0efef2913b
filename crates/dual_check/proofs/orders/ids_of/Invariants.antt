use Rattle.dual_check.proofs.Common.{◌≡◌, take, map}
use Rattle.dual_check.proofs.orders.ids_of.Given as goal

-- the ids so far
abbrev pub invariant-loop-item : goal.invariant-loop-item
invariant-loop-item g l = l.ids.items ≡ map g.T.HasId.id_of (take l.item-index l.items)
