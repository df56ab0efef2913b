use Rattle.std.proofs.Common.{sym, subst}
use Rattle.ride_model.specs.inner.Vehicle.{IsLawfulSomewhere}
use Rattle.plan_trials.specs.LineRoad.{vehicle_with}
use Rattle.plan_trials.proofs.LineRoad.{lawful_somewhere}
use Rattle.plan_trials.proofs.slack.broken_rides.Goals as goal

pub broken-requires-clause-lawful : goal.broken-requires-clause-lawful
broken-requires-clause-lawful c =
    subst IsLawfulSomewhere (sym c.vehicle-vehicle.ensures)
    (lawful_somewhere (vehicle_with c.args.car.at c.args.car.ready c.args.car.seats c.args.car.chairs c.args.rides.now c.args.stops.now)
    c.requires.lawful)
