use Rattle.turn_lock.proofs.Common.{arith}
use Rattle.turn_lock.proofs.Joining.{splits}
use Rattle.turn_lock.proofs.lock.TurnLock.split.Goals as goal

pub split_seat-seat-requires : goal.split_seat-seat-requires
split_seat-seat-requires g c =
    let lock = c.args.self.now in
    let pass = c.args.pass.now in
    let t = g.T.Chronicle in (
      c.requires.pass.0,
      omega (arith, lock.two_words),
      splits t.root t.history t.maker (t.root lock.table.shared.key.value.value) pass.seat.id pass.seat.me.0 pass.live c.requires.first c.requires.room c.requires.pass.1,
    )
