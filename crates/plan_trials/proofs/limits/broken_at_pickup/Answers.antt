use Rattle.std.proofs.Common.{sym, subst, arith}
use Rattle.ride_model.specs.inner.Vehicle.{IsLawfulSomewhere}
use Rattle.plan_trials.specs.SmallPlans.{four_nodes}
use Rattle.plan_trials.proofs.SmallPlans.{map_fits}
use Rattle.plan_trials.proofs.OneRide.{on_the_way_is_lawful, from_node_2}
use Rattle.plan_trials.proofs.limits.broken_at_pickup.Goals as goal

pub broken-requires-clause-lawful : goal.broken-requires-clause-lawful
broken-requires-clause-lawful c =
    subst IsLawfulSomewhere (sym c.approaching-vehicle.ensures) (
      four_nodes,
      map_fits,
      on_the_way_is_lawful 2 c.args.ready 0 c.args.latest c.args.longest (omega arith) (omega arith) c.requires.ready_limit from_node_2
          c.requires.latest_limit c.requires.some_seconds c.requires.longest_limit,
    )
