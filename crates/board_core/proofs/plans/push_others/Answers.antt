use Rattle.board_core.proofs.Common.{length, take, map, length-append, ap, arith, Stop, stops_without}
use Rattle.board_core.proofs.LegLaws.{few-others}
use Rattle.board_core.proofs.plans.push_others.Goals as goal

pub push-requires : goal.push-requires
push-requires c =
    omega (
      arith,
      ap length c.loop-stop.invariant,
      length-append c.args.nodes.now.items
          (map (λ (stop : Stop). stop.node) (stops_without c.args.id (take c.loop-stop.stop-index c.args.stops.now))),
      few-others c.args.id c.args.stops.now c.loop-stop.stop-index,
      c.requires.one,
      c.requires.few,
      c.loop-stop-test.true,
    )
