use Rattle.std.proofs.Common.{sym, subst}
use Rattle.ride_model.specs.inner.Vehicle.{IsLawfulSomewhere}
use Rattle.plan_trials.specs.SmallPlans.{four_nodes}
use Rattle.plan_trials.proofs.SmallPlans.{map_fits}
use Rattle.plan_trials.proofs.OneRide.{with_rider_is_lawful}
use Rattle.plan_trials.proofs.limits.broken_at_dropoff.Goals as goal

pub broken-requires-clause-lawful : goal.broken-requires-clause-lawful
broken-requires-clause-lawful c =
    subst IsLawfulSomewhere (sym c.carrying-vehicle.ensures)
    (four_nodes, map_fits, with_rider_is_lawful c.args.ready c.args.longest c.requires.after_pickup c.requires.ready_limit c.requires.some_seconds c.requires.longest_limit)
