use Rattle.board_core.proofs.Common.{◌≡◌, ◌+◌, sym, ◌∙◌, ap, subst, arith, Settings, Vehicle, IsLawful, Given, lateness_of, IsMoved}
use Rattle.board_core.proofs.LegLaws.{first-node}
use Rattle.board_core.proofs.Moved.{put_before, moved-driving, put-lawful, first-leg-le, way-le}
use Rattle.board_core.proofs.service.reports.move_to.Goals as goal

pub overflow_add-old : goal.overflow_add-old
overflow_add-old c =
    let (rest, is) = c.in-Some.ensures in
    omega (
      arith,
      first-leg-le c.args.setup.now.roads c.args.vehicle.now c.in-Some.first rest c.requires.map c.requires.lawful is,
      c.requires.lawful.routed.ready_limit,
    )

pub time-requires-clause-to : goal.time-requires-clause-to
time-requires-clause-to c =
    let (rest, is) = c.in-Some.ensures in
    first-node c.args.setup.now.roads c.args.vehicle.now c.in-Some.first rest c.requires.lawful is

pub overflow_add-time : goal.overflow_add-time
overflow_add-time c =
    omega (
      arith,
      way-le c.args.setup.now.roads c.args.node c.in-Some.first.node c.in-Some-time.leg c.time.result c.requires.map c.time.ensures.time
          c.in-Some-time.is,
      c.requires.time_limit,
    )

pub lateness-requires-clause-lawful : goal.lateness-requires-clause-lawful
lateness-requires-clause-lawful c =
    let (rest, is) = c.in-Some.ensures in (
      c.args.setup.now.roads,
      c.requires.map,
      subst (IsLawful c.args.setup.now.roads) (sym c.put_before.ensures)
          (put-lawful c.args.setup.now.roads c.args.vehicle.now c.args.node c.args.time c.in-Some-time.leg c.in-Some.first rest c.requires.lawful
          c.requires.node c.requires.late c.requires.time_limit is (sym c.in-Some-time.ensures.time)),
    )

pub returns-clause-moved : goal.returns-clause-moved
returns-clause-moved c =
    let (rest, is) = c.in-Some.ensures in
    let moved = moved-driving c.args.setup.now c.args.vehicle.now c.args.node c.args.time c.in-Some-time.leg c.in-Some.first rest c.requires.lawful is
    (sym c.in-Some-time.ensures.time) in
    let after = put_before c.args.vehicle.now c.args.node c.args.time c.in-Some-time.leg in
    let reply : c.lateness.result ≡ lateness_of after c.args.setup.now.settings.dwell (c.args.time + c.in-Some-time.leg)
    (c.args.vehicle.now.ready + c.in-Some.first.leg)
    = c.lateness.ensures
    ∙ ap (λ (v : Vehicle). lateness_of v c.settings.result.dwell (c.args.time + c.in-Some-time.leg) (c.args.vehicle.now.ready + c.in-Some.first.leg))
    c.put_before.ensures
    ∙ ap (λ (settings : Settings). lateness_of after settings.dwell (c.args.time + c.in-Some-time.leg) (c.args.vehicle.now.ready + c.in-Some.first.leg))
    (c.settings.ensures ∙ ap (λ (setup : Given). setup.settings) c.time.ensures.kept) in
    subst (λ v. IsMoved c.args.setup.now c.args.vehicle.now c.args.node c.args.time c.lateness.result v) (sym c.put_before.ensures)
    (subst (λ r. IsMoved c.args.setup.now c.args.vehicle.now c.args.node c.args.time r after) (sym reply) moved)
