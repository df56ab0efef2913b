use Rattle.promises.proofs.Common.{◌≤◌, List, length, sym, ◌∙◌, ap, subst, All, filter, Stop, ride_ids, breaks_along}
use Rattle.promises.proofs.Visits.{length-times, times-soon, broken-vehicle}
use Rattle.promises.proofs.late.broken.Goals as goal

pub broken_among-requires-clause-one_each : goal.broken_among-requires-clause-one_each
broken_among-requires-clause-one_each c =
    ap length (c.as_slice-3.ensures.value ∙ c.times-times.ensures)
    ∙ length-times c.args.dwell c.args.vehicle.now.ready c.args.vehicle.now.stops.items
    ∙ ap length (sym c.as_slice-2.ensures.value)

pub broken_among-requires-clause-soon : goal.broken_among-requires-clause-soon
broken_among-requires-clause-soon c =
    let (roads, fits, lawful) = c.requires.lawful in
    subst (All (λ time. time ≤ 10000000000000000)) (sym (c.as_slice-3.ensures.value ∙ c.times-times.ensures))
    (times-soon c.args.vehicle.now c.args.vehicle.now.ready c.args.dwell (roads, fits, lawful.routed) lawful.routed.ready_limit c.requires.dwell_limit
    (subst (λ (stops : List Stop). length stops ≤ 16) c.as_slice-2.ensures.value c.as_slice-2.ensures.fits))

pub returns : goal.returns
returns c =
    let (roads, fits, lawful) = c.requires.lawful in
    let v = c.args.vehicle.now in
    c.broken_among.ensures
    ∙ ap (λ rides. ride_ids (filter (breaks_along c.as_slice-2.result.now c.as_slice-3.result.now) rides)) c.as_slice.ensures.value
    ∙ ap (λ stops. ride_ids (filter (breaks_along stops c.as_slice-3.result.now) v.rides.items)) c.as_slice-2.ensures.value
    ∙ ap (λ times. ride_ids (filter (breaks_along v.stops.items times) v.rides.items)) (c.as_slice-3.ensures.value ∙ c.times-times.ensures)
    ∙ broken-vehicle v c.args.dwell (roads, fits, lawful.routed)
