use Rattle.std.proofs.Common.{sym, subst, arith}
use Rattle.ride_model.specs.inner.Vehicle.{IsRoutedSomewhere}
use Rattle.plan_trials.specs.SmallPlans.{four_nodes}
use Rattle.plan_trials.proofs.SmallPlans.{map_fits}
use Rattle.plan_trials.proofs.OneRide.{on_the_way_is_lawful, from_node_1}
use Rattle.plan_trials.proofs.limits.is_kept.Goals as goal

pub keeps-requires-clause-routed : goal.keeps-requires-clause-routed
keeps-requires-clause-routed c =
    let lawful = on_the_way_is_lawful 1 0 60 c.args.latest c.args.longest (omega arith) (omega arith) (omega arith) from_node_1
    c.requires.latest_limit c.requires.some_seconds c.requires.longest_limit in
    subst IsRoutedSomewhere (sym c.approaching-vehicle.ensures) (four_nodes, map_fits, lawful.routed)
