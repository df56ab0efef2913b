use Rattle.turn_lock.proofs.Common.{ap, ◌∙◌, arith, slots_of}
use Rattle.turn_lock.proofs.Joining.{joins, looks, still_live}
use Rattle.turn_lock.proofs.lock.TurnLock.join.Goals as goal

pub join_seat-requires : goal.join_seat-requires
join_seat-requires g c =
    let lock = c.args.self.now in
    let pass = c.args.pass.now in
    let other = c.args.other in
    let t = g.T.Chronicle in (
      c.requires.pass.0,
      c.requires.other.0,
      other.slots_are ∙ ap slots_of c.requires.other.1,
      omega (arith, lock.two_words),
      joins t.root t.history t.maker (t.root lock.table.shared.key.value.value) pass.seat.id pass.seat.me.0 other.seat.id other.seat.me.0 pass.live other.live c.requires.first c.requires.numbered c.requires.pass.1 c.requires.other.1,
    )

pub load-pass-requires : goal.load-pass-requires
load-pass-requires g c =
    let lock = c.args.self.now in
    let seat = c.join_seat.new.seat in
    let t = g.T.Chronicle in (
      c.join_seat.ensures.0 ∙ c.requires.pass.0,
      omega (arith, lock.two_words),
      looks t.root t.history t.maker (t.root lock.table.shared.key.value.value) lock.table.shared.table_id.slots seat.id seat.me (still_live seat.me c.args.pass.now.seat.me.0 c.args.other.seat.me.0 _ c.join_seat.ensures.2 c.args.pass.now.live),
    )
