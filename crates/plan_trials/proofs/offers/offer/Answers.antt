use Rattle.std.proofs.Common.{sym, subst}
use Rattle.std.specs.Prelude.{None}
use Rattle.plan_trials.specs.SmallPlans.{four_nodes, ride_of, promised}
use Rattle.insertion.specs.inner.Asked.{IsAsked}
use Rattle.plan_trials.specs.NearPlaces.{settings_of, near_3_to_4}
use Rattle.plan_trials.proofs.NearPlaces.{asked}
use Rattle.plan_trials.proofs.offers.offer.Goals as goal

pub offer_at-requires : goal.offer_at-requires
offer_at-requires c = (
  four_nodes,
  subst (λ v. IsAsked four_nodes v c.ride-ride.result 0 c.settings-settings.result c.near-near.result) (sym c.vehicle-vehicle.ensures)
      (subst (λ ride. IsAsked four_nodes promised ride 0 c.settings-settings.result c.near-near.result) (sym c.ride-ride.ensures)
      (subst (λ settings. IsAsked four_nodes promised (ride_of 9 3 4 None) 0 settings c.near-near.result) (sym c.settings-settings.ensures)
      (subst (λ near. IsAsked four_nodes promised (ride_of 9 3 4 None) 0 (settings_of c.args.wait c.args.dwell) near) (sym c.near-near.ensures)
      (asked c.args.wait c.args.dwell c.requires.wait_limit c.requires.dwell_limit)))),
)
