use Rattle.std.proofs.Common.{sym, subst}
use Rattle.ride_model.specs.inner.Vehicle.{IsRoutedSomewhere}
use Rattle.plan_trials.specs.LineRoad.{vehicle_with}
use Rattle.plan_trials.proofs.LineRoad.{routed_somewhere}
use Rattle.plan_trials.proofs.limits.all_kept.Goals as goal

pub keeps-requires-clause-routed : goal.keeps-requires-clause-routed
keeps-requires-clause-routed c =
    subst IsRoutedSomewhere (sym c.promised-vehicle.ensures)
    (routed_somewhere (vehicle_with 1 0 2 c.args.chairs c.args.rides.now c.args.stops.now) c.requires.routed)
