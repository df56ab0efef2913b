use Rattle.turn_lock.proofs.Common.{ap, ◌∙◌, arith, slots_of}
use Rattle.turn_lock.proofs.Leaving.{hands_on, refilled}
use Rattle.turn_lock.proofs.lock.TurnLock.leave_same.Goals as goal

pub store-requires : goal.store-requires
store-requires g c =
    let lock = c.args.self.now in
    let pass = c.args.pass.now in
    let seat = c.exchange-empty.new.seat in
    let t = g.T.Chronicle in (
      c.exchange-empty.ensures.0 ∙ c.requires.pass.0,
      omega (arith, lock.two_words),
      hands_on t.root t.history t.maker (t.root lock.table.shared.key.value.value) lock.table.shared.table_id.slots seat.id seat.me pass.seat.me.0 c.args.value
          (refilled pass.seat.me seat.me c.args.value (pass.slots_are ∙ ap slots_of c.requires.pass.1) c.exchange-empty.ensures.3) pass.live c.requires.pass.1 c.requires.root c.requires.same,
    )
