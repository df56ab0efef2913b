use Rattle.trip_log.proofs.Common.{◌<◌, length, arith}
use Rattle.trip_log.proofs.PrintsLemmas.{prints_as, broken_text}
use Rattle.trip_log.proofs.events.print_broken.Goals as goal

pub returns : goal.returns
returns g c =
    let some : 0 < length c.items-ids.result.now = grind (arith, c.if-is_empty.false, c.is_empty.ensures) in
    rw (← c.items-ids.ensures.items) (prints_as (broken_text c.items-ids.result.now some) c.print_list.ensures)
