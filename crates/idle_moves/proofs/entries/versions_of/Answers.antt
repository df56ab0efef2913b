use Rattle.idle_moves.proofs.Common.{eqb, ◌∙◌, ap, insert_entry}
use Rattle.idle_moves.proofs.Keeping.{versions-pushed}
use Rattle.idle_moves.proofs.entries.versions_of.Goals as goal

pub loop-vehicle-preserved : goal.loop-vehicle-preserved
loop-vehicle-preserved c =
    let v = c.vehicle-item.result in
    c.in_ok-insert.ensures.entries
    ∙ ap (λ entries. insert_entry eqb entries v.id v.version) c.loop-vehicle.invariant
    ∙ versions-pushed c.args.vehicles.now c.loop-vehicle.vehicle-index v c.requires c.loop-vehicle-test.true c.vehicle-item.is
