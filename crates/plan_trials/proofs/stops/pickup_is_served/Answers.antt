use Rattle.std.proofs.Common.{[], ◌∷◌, refl, sym, subst}
use Rattle.ride_model.specs.inner.Vehicle.{IsLawfulSomewhere}
use Rattle.stop_plans.specs.inner.Change.{HasFirstStopAt}
use Rattle.plan_trials.specs.SmallPlans.{four_nodes, pickup_at, dropoff_at}
use Rattle.plan_trials.proofs.SmallPlans.{map_fits, arrived_is_lawful}
use Rattle.plan_trials.proofs.stops.pickup_is_served.Goals as goal

pub serve_first-requires-clause-lawful : goal.serve_first-requires-clause-lawful
serve_first-requires-clause-lawful c =
    subst IsLawfulSomewhere (sym c.arrived_vehicle-vehicle.ensures) (four_nodes, map_fits, arrived_is_lawful)

pub serve_first-requires-clause-at_stop : goal.serve_first-requires-clause-at_stop
serve_first-requires-clause-at_stop c =
    subst HasFirstStopAt (sym c.arrived_vehicle-vehicle.ensures) (pickup_at 7 2 0, dropoff_at 7 4 120 ∷ [], refl, refl)
