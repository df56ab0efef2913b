use Rattle.board_core.proofs.Common.{eqb, ◌∙◌, ap, insert_key}
use Rattle.board_core.proofs.Placed.{ids-pushed}
use Rattle.board_core.proofs.places.Places.new.Goals as goal

pub loop-vehicle-preserved : goal.loop-vehicle-preserved
loop-vehicle-preserved c =
    c.in_ok-insert.ensures.keys
    ∙ ap (λ ids. insert_key eqb ids c.vehicle-item.result.id) c.loop-vehicle.invariant
    ∙ ids-pushed c.args.fleet.now c.loop-vehicle.vehicle-index c.vehicle-item.result c.requires c.loop-vehicle-test.true c.vehicle-item.is
