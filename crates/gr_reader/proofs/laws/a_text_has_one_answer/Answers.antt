use Rattle.gr_reader.proofs.NamedLemmas.{map_text-no_memory, map_text-no_fault}
use Rattle.gr_reader.proofs.laws.a_text_has_one_answer.Goals as goal

pub returns-clause-no_memory : goal.returns-clause-no_memory
returns-clause-no_memory c = map_text-no_memory

pub returns-clause-no_fault : goal.returns-clause-no_fault
returns-clause-no_fault c = map_text-no_fault
