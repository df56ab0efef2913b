use Rattle.std.proofs.Common.{sym, subst}
use Rattle.plan_trials.specs.SmallPlans.{four_nodes}
use Rattle.insertion.specs.inner.Asked.{IsAsked}
use Rattle.plan_trials.proofs.slack.none_below_with_pickup_at.Goals as goal

pub offer_at-requires : goal.offer_at-requires
offer_at-requires c = (
  four_nodes,
  subst (IsAsked four_nodes c.args.vehicle.now c.args.ride.now 0 c.args.settings.now) (sym c.near-near.ensures) c.requires,
)
