use Rattle.promises.proofs.Common.{sym, ◌∙◌}
use Rattle.promises.proofs.Visits.{arrival-later}
use Rattle.promises.proofs.arrivals.arrival.Goals as goal

pub loop-i-preserved : goal.loop-i-preserved
loop-i-preserved c =
    arrival-later c.args.id c.args.kind c.args.stops.now c.args.times.now c.loop-i.i _ c.loop-i-test.true c.requires.one_each
    (sym c.is_visit.ensures ∙ c.if-is_visit.false)
    ∙ c.loop-i.invariant
