use Rattle.std.proofs.Common.{sym, subst}
use Rattle.stop_plans.specs.inner.Change.{RemovesFrom}
use Rattle.plan_trials.specs.SmallPlans.{four_nodes}
use Rattle.plan_trials.proofs.SmallPlans.{pooling_is_undone}
use Rattle.plan_trials.proofs.stops.law_takes_the_ride_out.Goals as goal

pub removal_law-requires : goal.removal_law-requires
removal_law-requires c =
    (four_nodes, subst (λ v. RemovesFrom four_nodes v 9 120 120) (sym c.pooled_vehicle-vehicle.ensures.value) pooling_is_undone)
