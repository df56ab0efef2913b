use Rattle.model_laws.proofs.Removal.{lawful-without}
use Rattle.model_laws.proofs.plans.removal_leaves_a_lawful_vehicle.Goals as goal

pub returns : goal.returns
returns c = lawful-without
