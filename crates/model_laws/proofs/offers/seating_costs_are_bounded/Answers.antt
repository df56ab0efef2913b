use Rattle.model_laws.proofs.BatchSums.{seating_cost-lt}
use Rattle.model_laws.proofs.offers.seating_costs_are_bounded.Goals as goal

pub returns : goal.returns
returns c = seating_cost-lt
