use Rattle.dual_check.proofs.ItemOrders.{TakenSoFar}
use Rattle.dual_check.proofs.orders.items_by_id.Given as goal

-- what the ids so far took
abbrev pub invariant-loop-id : goal.invariant-loop-id
invariant-loop-id g l = TakenSoFar g.T.HasId.id_of l.ids l.items l.each.items l.id-index l.next
