use Rattle.model_laws.proofs.Removal.{visits-sooner}
use Rattle.model_laws.proofs.plans.removal_makes_no_visit_later.Goals as goal

pub returns : goal.returns
returns c = visits-sooner
