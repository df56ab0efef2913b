use Rattle.turn_lock.proofs.Common.{Some, ap, ◌∙◌, arith, slots_of}
use Rattle.turn_lock.proofs.Entering.{grabs, holds_slot}
use Rattle.turn_lock.proofs.Joining.{looks}
use Rattle.turn_lock.proofs.lock.TurnLock.try_enter.Goals as goal

pub compare_exchange-found-requires : goal.compare_exchange-found-requires
compare_exchange-found-requires g c =
    let lock = c.args.self.now in
    let pass = c.args.pass.now in
    let t = g.T.Chronicle in (
      c.requires.0,
      omega (arith, lock.two_words),
      grabs t.root t.history t.maker (t.root lock.table.shared.key.value.value) lock.table.shared.table_id.slots pass.seat.id pass.seat.me (pass.slots_are ∙ ap slots_of c.requires.1) pass.live c.requires.1,
    )

pub exchange-value-requires : goal.exchange-value-requires
exchange-value-requires g c =
    let takes = c.compare_exchange-found.ensures.2.0 c.if-found-ne-FREE.false in
    (c.compare_exchange-found.ensures.0 ∙ c.requires.0, (Some takes.0, holds_slot c.compare_exchange-found.new.seat.me _ (Some takes.0) _ takes.1))

pub load-pass-requires : goal.load-pass-requires
load-pass-requires g c =
    let lock = c.args.self.now in
    let seat = c.exchange-value.new.seat in
    let t = g.T.Chronicle in
    let takes = c.compare_exchange-found.ensures.2.0 c.if-found-ne-FREE.false in (
      c.exchange-value.ensures.0 ∙ c.compare_exchange-found.ensures.0 ∙ c.requires.0,
      omega (arith, lock.two_words),
      looks t.root t.history t.maker (t.root lock.table.shared.key.value.value) lock.table.shared.table_id.slots seat.id seat.me
          ((λ k. (c.exchange-value.ensures.3 k).0.is_live) ∙ (λ k. (takes.1 k).0.is_live) ∙ c.args.pass.now.live),
    )
