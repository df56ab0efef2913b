use Rattle.model_laws.proofs.TravelTimes.{travel_is_least}
use Rattle.model_laws.proofs.travel.travel_is_least_weight.Goals as goal

pub returns : goal.returns
returns c = travel_is_least
