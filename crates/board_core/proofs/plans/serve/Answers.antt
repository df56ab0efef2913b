use Rattle.board_core.proofs.Common.{ap, arith, Vehicle}
use Rattle.board_core.proofs.Served.{version-served}
use Rattle.board_core.proofs.plans.serve.Goals as goal

pub overflow_add-vehicle : goal.overflow_add-vehicle
overflow_add-vehicle c =
    let (stop, rest, is, at) = c.requires.at_stop in
    omega (
      arith,
      ap (λ (v : Vehicle). v.version) (c.serve_first-reply.ensures.vehicle stop rest is),
      version-served c.args.dwell c.args.vehicle.now stop rest stop.kind,
      c.requires.version,
    )
