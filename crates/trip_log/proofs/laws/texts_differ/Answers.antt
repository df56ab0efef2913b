use Rattle.trip_log.proofs.TextLemmas.{texts-same}
use Rattle.trip_log.proofs.laws.texts_differ.Goals as goal

pub returns : goal.returns
returns c = texts-same
