use Rattle.std.proofs.Common.{[], ◌∷◌, sym, ◌∙◌, subst}
use Rattle.ride_model.specs.inner.Vehicle.{IsRoutedSomewhere}
use Rattle.plan_trials.specs.SmallPlans.{four_nodes, vehicle_of, pooled}
use Rattle.plan_trials.proofs.SmallPlans.{map_fits, pooled_is_lawful}
use Rattle.plan_trials.proofs.stops.pooled_vehicle.Goals as goal

pub returns-clause-routed : goal.returns-clause-routed
returns-clause-routed c =
    subst IsRoutedSomewhere
    (sym (c.vehicle.ensures ∙ (λ i. vehicle_of 1 0 (c.ride.ensures i ∷ c.ride-2.ensures i ∷ [])
    (c.pickup.ensures i ∷ c.pickup-2.ensures i ∷ c.dropoff.ensures i ∷ c.dropoff-2.ensures i ∷ []))))
    (four_nodes, map_fits, pooled_is_lawful.routed)
