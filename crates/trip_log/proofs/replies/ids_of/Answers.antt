use Rattle.trip_log.proofs.Common.{◌≡◌, ◌∙◌, ap, arith, length, length-take-le}
use Rattle.trip_log.proofs.replies.ids_of.Goals as goal

pub push-requires : goal.push-requires
push-requires c =
    let count : length c.loop-id.list ≡ c.loop-id.id-index = ap length c.loop-id.invariant ∙ length-take-le c.loop-id.id-index c.args.ids.now (omega arith) in
    omega arith
