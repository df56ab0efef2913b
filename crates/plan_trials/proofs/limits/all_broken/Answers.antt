use Rattle.std.proofs.Common.{sym, subst}
use Rattle.ride_model.specs.inner.Vehicle.{IsLawfulSomewhere}
use Rattle.plan_trials.specs.LineRoad.{vehicle_with}
use Rattle.plan_trials.proofs.LineRoad.{lawful_somewhere}
use Rattle.plan_trials.proofs.limits.all_broken.Goals as goal

pub broken-requires-clause-lawful : goal.broken-requires-clause-lawful
broken-requires-clause-lawful c =
    subst IsLawfulSomewhere (sym c.promised-vehicle.ensures)
    (lawful_somewhere (vehicle_with 1 c.args.ready 2 0 c.args.rides.now c.args.stops.now) c.requires.lawful)
