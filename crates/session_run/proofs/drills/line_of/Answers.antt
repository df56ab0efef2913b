use Rattle.session_run.proofs.Common.{◌≡◌, length, ap, ◌∙◌, arith, IfOk-weaker, State, start_state, start_of}
use Rattle.city_maker.specs.Fleets.{default_settings}
use Rattle.city_maker.specs.Roads.{network_of}
use Rattle.city_maker.proofs.FleetLimits.{length-fleet_of}
use Rattle.session_run.proofs.DrillCity.{drill-of, few-commands}
use Rattle.session_run.proofs.drills.line_of.Goals as goal

pub run-requires-clause-vehicles : goal.run-requires-clause-vehicles
run-requires-clause-vehicles g c κs within =
    ap (λ (s : State). length s.vehicles) c.in_ok-board.ensures.start ∙ ap length c.in_ok-network.ensures.fleet ∙ length-fleet_of c.args.plan.now

pub run-requires-clause-few : goal.run-requires-clause-few
run-requires-clause-few g c κs within =
    omega (arith, ap length c.items.ensures, ap length c.in_ok-network.ensures.commands, few-commands c.args.plan.now c.requires)

pub returns : goal.returns
returns g c =
    let plan = c.args.plan.now in
    let start : c.in_ok-board.board.start ≡ start_of plan =
    c.in_ok-board.ensures.start ∙ ap (λ roads. start_state roads c.in_ok-network.field-0.settings c.in_ok-network.field-0.fleet) (c.in_ok-roads.ensures ∙ c.in_ok-network.ensures.network)
    ∙ ap (λ settings. start_state (network_of plan) settings c.in_ok-network.field-0.fleet) c.in_ok-network.ensures.settings
    ∙ ap (start_state (network_of plan) default_settings) c.in_ok-network.ensures.fleet in
    IfOk-weaker c.summary_of.result _ _
    (λ line is. (
      c.run.new.board.history,
      drill-of plan c.run.new.board.start c.items.result.now c.run.new.board.history c.in_ok-run.ensures.drilled
          (c.in_ok-run.ensures.start ∙ start) (c.items.ensures ∙ c.in_ok-network.ensures.commands),
      is,
    )) c.summary_of.ensures
