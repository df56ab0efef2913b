use Rattle.model_laws.proofs.Histories.{IsLegal-append, IsLegal-parts}
use Rattle.model_laws.proofs.history.parts_of_a_legal_history_are_legal.Goals as goal

pub returns : goal.returns
returns c = λ feeds desks s first second. (IsLegal-parts feeds desks s first second, λ (a, b). IsLegal-append feeds desks s first second a b)
