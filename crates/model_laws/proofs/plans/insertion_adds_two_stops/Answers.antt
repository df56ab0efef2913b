use Rattle.model_laws.proofs.Insertions.{length-stops_with}
use Rattle.model_laws.proofs.plans.insertion_adds_two_stops.Goals as goal

pub returns : goal.returns
returns c = λ v ride i j. length-stops_with ride i j v.stops.items
