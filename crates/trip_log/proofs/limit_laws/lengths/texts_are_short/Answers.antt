use Rattle.trip_log.proofs.limit_laws.Texts.{text-le}
use Rattle.trip_log.proofs.limit_laws.lengths.texts_are_short.Goals as goal

pub returns : goal.returns
returns c = text-le
