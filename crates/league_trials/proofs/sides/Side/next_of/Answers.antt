use Rattle.std.proofs.Common.{subst, sym, arith}
use Rattle.ride_model.specs.declared.vehicle.Vehicle.{Vehicle}
use Rattle.ride_model.specs.inner.Vehicle.{IsRoutedSomewhere}
use Rattle.league_trials.proofs.DaySides.{routed-at}
use Rattle.league_trials.proofs.sides.Side.next_of.Goals as goal

pub next_report-requires : goal.next_report-requires
next_report-requires c =
    let v : Vehicle = c.index-vehicles-place.result in
    subst IsRoutedSomewhere (sym c.index-vehicles-place.is)
    (routed-at c.board-board.result.now c.vehicles-vehicles.result.now c.args.place v
    (record { begins = c.entries-history.ensures.start; legal = c.entries-history.ensures.legal }) c.vehicles-vehicles.ensures (omega arith))
