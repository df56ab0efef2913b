use Rattle.model_laws.proofs.TravelTimes.{travel-same}
use Rattle.model_laws.proofs.travel.staying_takes_no_time.Goals as goal

pub returns : goal.returns
returns c = travel-same
