use Rattle.slack_tables.proofs.Common.{sym, ◌∙◌}
use Rattle.slack_tables.proofs.Visits.{visit-later}
use Rattle.slack_tables.proofs.trips.first_visit.Goals as goal

pub loop-i-preserved : goal.loop-i-preserved
loop-i-preserved c =
    visit-later c.args.id c.args.kind c.args.stops.now c.args.times.now c.loop-i.i _ c.loop-i-test.true c.requires.one_each
    (sym c.is_visit.ensures ∙ c.if-is_visit.false)
    ∙ c.loop-i.invariant
