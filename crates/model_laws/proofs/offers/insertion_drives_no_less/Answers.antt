use Rattle.model_laws.proofs.Costs.{drive-inserted}
use Rattle.model_laws.proofs.offers.insertion_drives_no_less.Goals as goal

pub returns : goal.returns
returns c = λ roads v new ride i j dwell. drive-inserted roads v ride i j dwell new
