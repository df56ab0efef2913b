use Rattle.trip_log.proofs.ReadLemmas.{lines-same}
use Rattle.trip_log.proofs.laws.lines_differ.Goals as goal

pub returns : goal.returns
returns c = lines-same
