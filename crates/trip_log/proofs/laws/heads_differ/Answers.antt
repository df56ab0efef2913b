use Rattle.trip_log.proofs.LineLemmas.{heads-same}
use Rattle.trip_log.proofs.laws.heads_differ.Goals as goal

pub returns : goal.returns
returns c = heads-same
