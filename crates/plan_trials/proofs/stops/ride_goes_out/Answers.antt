use Rattle.std.proofs.Common.{sym, subst}
use Rattle.stop_plans.specs.inner.Change.{RemovesFrom}
use Rattle.plan_trials.specs.SmallPlans.{four_nodes}
use Rattle.plan_trials.proofs.SmallPlans.{pooling_is_undone}
use Rattle.plan_trials.proofs.stops.ride_goes_out.Goals as goal

pub remove_ride-requires : goal.remove_ride-requires
remove_ride-requires c =
    (four_nodes, subst (λ v. RemovesFrom four_nodes v 9 120 120) (sym c.pooled_vehicle-vehicle.ensures.value) pooling_is_undone)
