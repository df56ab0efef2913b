use Rattle.model_laws.proofs.Insertions.{routed-with}
use Rattle.model_laws.proofs.plans.insertion_gives_a_plan.Goals as goal

pub returns : goal.returns
returns c = λ roads v new ride i j. routed-with roads v ride i j new
