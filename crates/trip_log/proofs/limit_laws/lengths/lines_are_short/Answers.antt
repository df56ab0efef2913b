use Rattle.trip_log.proofs.limit_laws.TextLines.{each-line}
use Rattle.trip_log.proofs.limit_laws.Texts.{each-line-le}
use Rattle.trip_log.proofs.limit_laws.lengths.lines_are_short.Goals as goal

pub returns : goal.returns
returns c = record { entries = each-line-le; lines = each-line }
