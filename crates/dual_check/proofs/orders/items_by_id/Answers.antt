use Rattle.dual_check.proofs.Common.{sym, ◌∙◌}
use Rattle.dual_check.proofs.ItemOrders.{taken-none, taken-one, taken-no, taken-all, taken-not_all}
use Rattle.dual_check.proofs.orders.items_by_id.Goals as goal
use Rattle.dual_check.proofs.orders.items_by_id.Goals.{then-is_some, else-is_some}

pub loop-id-init : goal.loop-id-init
loop-id-init g c = taken-none g.T.HasId.id_of c.args.ids.now c.args.items.now c.new-each.result.items c.new-each.ensures

pub loop-id-preserved : goal.loop-id-preserved
loop-id-preserved g c =
    elim c.if-is_some.branch [
      | then-is_some w ↦
          taken-one g.T.HasId.id_of c.args.ids.now c.args.items.now c.loop-id.each.items c.push.new.self.items
          c.item_at-item.result
          c.loop-id.id-index c.loop-id.next c.if-is_some.next c.loop-id-test.true c.item_at-item.ensures
          (sym c.is_some.ensures ∙ w.if-is_some.true) w.next-is c.push.ensures.items c.loop-id.invariant
      | else-is_some w ↦
          taken-no g.T.HasId.id_of c.args.ids.now c.args.items.now c.loop-id.each.items c.push.new.self.items
          c.item_at-item.result
          c.loop-id.id-index c.loop-id.next c.if-is_some.next c.loop-id-test.true c.item_at-item.ensures
          (sym c.is_some.ensures ∙ w.if-is_some.false) w.next-is c.push.ensures.items c.loop-id.invariant
    ]

pub returns-then-next-items : goal.returns-then-next-items
returns-then-next-items g c =
    taken-all g.T.HasId.id_of c.args.ids.now c.args.items.now c.loop-id.each.items c.loop-id.id-index c.loop-id.next
    c.requires.ids_differ
    c.loop-id-test.false c.if-next-items.true c.loop-id.invariant

pub returns-else-next-items : goal.returns-else-next-items
returns-else-next-items g c =
    taken-not_all g.T.HasId.id_of c.args.ids.now c.args.items.now c.loop-id.each.items c.loop-id.id-index c.loop-id.next
    c.requires.ids_differ
    c.loop-id-test.false c.if-next-items.false c.loop-id.invariant
