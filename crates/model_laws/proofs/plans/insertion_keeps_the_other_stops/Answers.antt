use Rattle.model_laws.proofs.Insertions.{stops-with-without}
use Rattle.model_laws.proofs.plans.insertion_keeps_the_other_stops.Goals as goal

pub returns : goal.returns
returns c = λ v ride i j. stops-with-without v.rides.items v.stops.items ride i j
