use Rattle.std.proofs.Common.{sym, ◌∙◌, ap, subst, arith}
use Rattle.plan_trials.specs.SmallPlans.{four_nodes}
use Rattle.insertion.specs.inner.Asked.{IsAsked}
use Rattle.insertion.proofs.PlanTimes.{start-le}
use Rattle.slack_tables.specs.inner.SlackOf.{slack_of}
use Rattle.plan_trials.proofs.slack.fast.Goals as goal

pub start_of-start-requires-clause-lead_limit : goal.start_of-start-requires-clause-lead_limit
start_of-start-requires-clause-lead_limit c =
    c.requires.settings_fit.lead_limit

pub of-slack-requires-clause-lawful : goal.of-slack-requires-clause-lawful
of-slack-requires-clause-lawful c =
    let all = c.requires in
    (four_nodes, all.map_fits, all.lawful)

pub of-slack-requires-clause-start_limit : goal.of-slack-requires-clause-start_limit
of-slack-requires-clause-start_limit c =
    let all = c.requires in
    omega (
      arith,
      c.start_of-start.ensures,
      start-le c.args.vehicle.now c.args.settings.now.lead 0 all.lawful.routed.ready_limit all.settings_fit.lead_limit (omega arith),
    )

pub of-slack-requires-clause-dwell_limit : goal.of-slack-requires-clause-dwell_limit
of-slack-requires-clause-dwell_limit c =
    c.requires.settings_fit.dwell_limit

pub best_place_fast-requires-clause-asked : goal.best_place_fast-requires-clause-asked
best_place_fast-requires-clause-asked c = (
  four_nodes,
  subst (IsAsked four_nodes c.args.vehicle.now c.args.ride.now 0 c.args.settings.now) (sym c.near-near.ensures) c.requires,
)

pub best_place_fast-requires-clause-slack : goal.best_place_fast-requires-clause-slack
best_place_fast-requires-clause-slack c =
    c.of-slack.ensures ∙ ap (λ s. slack_of c.args.vehicle.now s c.args.settings.now.dwell) c.start_of-start.ensures

pub returns : goal.returns
returns c =
    c.best_place_fast.ensures.an_offer four_nodes
    (subst (IsAsked four_nodes c.args.vehicle.now c.args.ride.now 0 c.args.settings.now) (sym c.near-near.ensures) c.requires)
