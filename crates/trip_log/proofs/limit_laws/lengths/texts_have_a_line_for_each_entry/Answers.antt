use Rattle.trip_log.proofs.limit_laws.TextLines.{count-lines}
use Rattle.trip_log.proofs.limit_laws.lengths.texts_have_a_line_for_each_entry.Goals as goal

pub returns : goal.returns
returns c = count-lines
