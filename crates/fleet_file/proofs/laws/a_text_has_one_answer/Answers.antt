use Rattle.fleet_file.proofs.Common.{refl, sym, fleet_text}
use Rattle.fleet_file.proofs.NamedLemmas.{fleet_text-no_memory, fleet_text-no_fault}
use Rattle.fleet_file.proofs.laws.a_text_has_one_answer.Goals as goal

pub returns-clause-no_memory : goal.returns-clause-no_memory
returns-clause-no_memory c = fleet_text-no_memory

pub returns-clause-no_fault : goal.returns-clause-no_fault
returns-clause-no_fault c = fleet_text-no_fault

pub returns-clause-total : goal.returns-clause-total
returns-clause-total c nodes bytes = (fleet_text nodes bytes, refl, λ other is. sym is)
