use Rattle.city_maker.proofs.Common.{arith}
use Rattle.city_maker.proofs.FirstLegs.{first-leg-le}
use Rattle.city_maker.proofs.drivers.next_report.Goals as goal

pub overflow_add-time : goal.overflow_add-time
overflow_add-time c =
    let item = c.in_ok-first.ensures.item in
    omega (
      arith,
      (c.requires.2).ready_limit,
      first-leg-le c.args.vehicle.now c.as_slice.result.now c.in_ok-first.first.now c.requires c.as_slice.ensures.value item.3.0 item.1,
    )
