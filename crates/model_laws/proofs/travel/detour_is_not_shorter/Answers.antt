use Rattle.model_laws.proofs.TravelTimes.{triangle}
use Rattle.model_laws.proofs.travel.detour_is_not_shorter.Goals as goal

pub returns : goal.returns
returns c = triangle
