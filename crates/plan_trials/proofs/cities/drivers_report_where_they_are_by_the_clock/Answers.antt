use Rattle.std.proofs.Common.{sym, subst}
use Rattle.ride_model.specs.inner.Vehicle.{IsRoutedSomewhere}
use Rattle.plan_trials.specs.SmallPlans.{four_nodes}
use Rattle.plan_trials.proofs.SmallPlans.{map_fits, promised_is_lawful, arrived_is_lawful}
use Rattle.plan_trials.proofs.cities.drivers_report_where_they_are_by_the_clock.Goals as goal

pub reports-requires : goal.reports-requires
reports-requires g c = subst IsRoutedSomewhere (sym c.driving-on_way.ensures) (four_nodes, map_fits, promised_is_lawful.routed)

pub reports-requires-2 : goal.reports-requires-2
reports-requires-2 g c = subst IsRoutedSomewhere (sym c.driving-there.ensures) (four_nodes, map_fits, arrived_is_lawful.routed)
