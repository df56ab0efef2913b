use Rattle.trip_log.proofs.TextLemmas.{texts-go_on}
use Rattle.trip_log.proofs.laws.texts_go_on_by_lines.Goals as goal

pub returns : goal.returns
returns c = texts-go_on
