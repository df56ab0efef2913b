use Rattle.trip_log.proofs.limit_laws.Tallies.{few-entries}
use Rattle.trip_log.proofs.limit_laws.lengths.entries_are_few.Goals as goal

pub returns : goal.returns
returns c = few-entries
