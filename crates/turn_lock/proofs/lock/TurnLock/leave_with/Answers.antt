use Rattle.turn_lock.proofs.Common.{[], ◌∷◌, Some, refl, ap, ◌∙◌, arith, slots_of, with_note}
use Rattle.turn_lock.proofs.Leaving.{notes, hands_on, refilled, has_noted}
use Rattle.turn_lock.proofs.lock.TurnLock.leave_with.Goals as goal

pub fetch_add-requires : goal.fetch_add-requires
fetch_add-requires g c =
    let lock = c.args.self.now in
    let pass = c.args.pass.now in
    let seat = c.exchange-none.new.seat in
    let t = g.T.Chronicle in
    let grown = c.requires.grown in (
      c.exchange-none.ensures.0 ∙ c.requires.pass.0,
      omega (arith, lock.two_words),
      notes t.root t.history t.maker (t.root lock.table.shared.key.value.value) lock.table.shared.table_id.slots seat.id seat.me pass.seat.me.0 c.args.value grown.item
          (refilled pass.seat.me seat.me c.args.value (pass.slots_are ∙ ap slots_of c.requires.pass.1) c.exchange-none.ensures.3) pass.live c.requires.pass.1 grown.made grown.grown c.requires.length,
    )

pub store-requires : goal.store-requires
store-requires g c =
    let lock = c.args.self.now in
    let pass = c.args.pass.now in
    let seat = c.fetch_add.new.seat in
    let t = g.T.Chronicle in (
      c.fetch_add.ensures.0 ∙ c.exchange-none.ensures.0 ∙ c.requires.pass.0,
      omega (arith, lock.two_words),
      hands_on t.root t.history t.maker (t.root lock.table.shared.key.value.value) lock.table.shared.table_id.slots seat.id seat.me (with_note t.history pass.seat.me.0 ((0, Some c.args.value) ∷ [])) c.args.value
          (has_noted t.history pass.seat.me c.exchange-none.new.seat.me seat.me c.args.value (refilled pass.seat.me c.exchange-none.new.seat.me c.args.value (pass.slots_are ∙ ap slots_of c.requires.pass.1) c.exchange-none.ensures.3) c.fetch_add.ensures.2)
          pass.live c.requires.pass.1 c.requires.root refl,
    )
