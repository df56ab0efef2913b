use Rattle.model_laws.proofs.Costs.{cost-lt}
use Rattle.model_laws.proofs.offers.offer_costs_are_bounded.Goals as goal

pub returns : goal.returns
returns c = cost-lt
