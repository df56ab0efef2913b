use Rattle.model_laws.proofs.history_laws.Standing.{pairs_stand}
use Rattle.model_laws.proofs.history_laws.closing.confirmed_pairs_stand.Goals as goal

pub returns : goal.returns
returns c = pairs_stand
