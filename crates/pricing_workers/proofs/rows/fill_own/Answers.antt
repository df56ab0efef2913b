use Rattle.pricing_workers.proofs.Common.{◌<◌, length, arith, ◌∙◌, length-set}
use Rattle.pricing_workers.proofs.HeldTimes.{next-held, rest-room}
use Rattle.pricing_workers.proofs.rows.fill_own.Goals as goal

pub loop-place-preserved : goal.loop-place-preserved
loop-place-preserved g c =
    let roads = c.args.roads.now in
    let times = c.loop-place.times in
    let place = c.loop-place.place in
    let new = c.fill.new.self in
    let inside : place < length times = omega (arith, c.loop-place-test.true, c.loop-place.invariant.0) in (
      length-set times place new ∙ c.loop-place.invariant.0,
      next-held roads.roads c.args.requests.now roads.wanted times place new _ inside c.loop-place.invariant.0 c.loop-place.invariant.1
          c.fill.ensures.rows,
      rest-room (length roads.wanted) times place new c.loop-place.invariant.2,
      c.fill.ensures.scratch ∙ c.loop-place.invariant.3,
    )
