use Rattle.std.proofs.Common.{sym, subst}
use Rattle.plan_trials.specs.SmallPlans.{four_nodes}
use Rattle.insertion.specs.inner.Asked.{IsAsked}
use Rattle.plan_trials.proofs.slack.agrees.Goals as goal

pub best_place-slow-requires : goal.best_place-slow-requires
best_place-slow-requires c = (
  four_nodes,
  subst (IsAsked four_nodes c.args.vehicle.now c.args.ride.now 0 c.args.settings.now) (sym c.near-near.ensures) c.requires,
)

pub offer_at-there-requires : goal.offer_at-there-requires
offer_at-there-requires c = (
  four_nodes,
  subst (IsAsked four_nodes c.args.vehicle.now c.args.ride.now 0 c.args.settings.now) (sym c.near-near.ensures) c.requires,
)
