use Rattle.slack_tables.proofs.Common.{◌≤◌, List, length, sym, ◌∙◌, ap, subst, All, Stop, length-times, times-soon}
use Rattle.slack_tables.proofs.slack.Slack.of.Goals as goal

pub trips_of-trips-requires-clause-one_each : goal.trips_of-trips-requires-clause-one_each
trips_of-trips-requires-clause-one_each c =
    ap length (c.as_slice-2.ensures.value ∙ c.times-times.ensures)
    ∙ length-times c.args.dwell c.args.start c.args.vehicle.now.stops.items
    ∙ ap length (sym c.as_slice-stops.ensures.value)

pub trips_of-trips-requires-clause-soon : goal.trips_of-trips-requires-clause-soon
trips_of-trips-requires-clause-soon c =
    let (roads, fits, lawful) = c.requires.lawful in
    subst (All (λ time. time ≤ 10000000000000000)) (sym (c.as_slice-2.ensures.value ∙ c.times-times.ensures))
    (times-soon c.args.vehicle.now c.args.start c.args.dwell (roads, fits, lawful.routed) c.requires.start_limit c.requires.dwell_limit
    (subst (λ (stops : List Stop). length stops ≤ 16) c.as_slice-stops.ensures.value c.as_slice-stops.ensures.fits))
