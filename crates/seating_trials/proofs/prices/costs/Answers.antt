use Rattle.std.proofs.Common.{sym, subst}
use Rattle.seating_trials.specs.TwoRequests.{IsOverLine}
use Rattle.seating_trials.proofs.TwoRequests.{over-line}
use Rattle.seating_trials.proofs.prices.costs.Goals as goal

pub priced-table-requires-clause-over_line : goal.priced-table-requires-clause-over_line
priced-table-requires-clause-over_line g c κs within =
    subst IsOverLine (sym c.batch-batch.ensures) (over-line c.args.rides.0 c.args.rides.1 c.args.duty c.requires.asked)
