use Rattle.stop_plans.proofs.Common.{◌==◌, get_or, ◌∙◌, ap, Some, None, slice_set, if◌then◌else◌, Ride}
use Rattle.stop_plans.proofs.Marked.{next-of-changed, one-more-changed}
use Rattle.stop_plans.proofs.serve.mark_picked.Goals as goal

pub loop-ride-preserved : goal.loop-ride-preserved
loop-ride-preserved c =
    let mark = λ (ride : Ride). if ride.id == c.args.id then record ride { picked = Some c.args.time } else ride in
    let blank : Ride = record { id = 0; from = 0; to = 0; seats = 0; chairs = 0; latest = 0; longest = 0; picked = None } in
    let i = c.loop-ride.ride-index in
    ap (slice_set c.loop-ride.rides i)
    (c.with_picked.ensures
    ∙ ap mark (ap (λ rides. get_or rides i blank) c.loop-ride.invariant ∙ next-of-changed mark c.args.rides.now i blank c.loop-ride-test.true))
    ∙ ap (λ rides. slice_set rides i (mark (get_or c.args.rides.now i blank))) c.loop-ride.invariant
    ∙ one-more-changed mark c.args.rides.now i blank c.loop-ride-test.true
