use Rattle.std.proofs.Common.{true, sym, subst}
use Rattle.seating_trials.specs.TwoRequests.{IsOverLine}
use Rattle.seating_trials.proofs.TwoRequests.{none-over-line}
use Rattle.seating_trials.proofs.prices.an_empty_batch_is_priced.Goals as goal

pub priced-requires-clause-over_line : goal.priced-requires-clause-over_line
priced-requires-clause-over_line g c κs = subst IsOverLine (sym c.empty_batch-batch.ensures) (none-over-line true)
