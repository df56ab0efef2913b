use Rattle.trip_log.proofs.TextLemmas.{cut-text, rest-text}
use Rattle.trip_log.proofs.laws.texts_are_cut_into_lines.Goals as goal

pub returns-clause-lines : goal.returns-clause-lines
returns-clause-lines c = cut-text

pub returns-clause-rest : goal.returns-clause-rest
returns-clause-rest c = rest-text
