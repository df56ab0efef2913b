use Rattle.std.proofs.Common.{sym, subst}
use Rattle.stop_plans.specs.inner.Change.{InsertsInto}
use Rattle.plan_trials.specs.SmallPlans.{four_nodes, promised, pooled, pooling}
use Rattle.plan_trials.proofs.SmallPlans.{pooling_inserts}
use Rattle.plan_trials.proofs.stops.ride_goes_in.Goals as goal

pub insert_ride-requires : goal.insert_ride-requires
insert_ride-requires c = (
  four_nodes,
  pooled,
  subst (λ v. InsertsInto four_nodes v c.ride.result pooling pooled) (sym c.promised_vehicle-vehicle.ensures)
      (subst (λ ride. InsertsInto four_nodes promised ride pooling pooled) (sym c.ride.ensures) pooling_inserts),
)
