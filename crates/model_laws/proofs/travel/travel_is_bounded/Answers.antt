use Rattle.model_laws.proofs.TravelTimes.{travel-le}
use Rattle.model_laws.proofs.travel.travel_is_bounded.Goals as goal

pub returns : goal.returns
returns c = travel-le
