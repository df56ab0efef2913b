use Rattle.model_laws.proofs.history_laws.Finished.{whole-finished}
use Rattle.model_laws.proofs.history_laws.finishing.whole_histories_are_finished.Goals as goal

pub returns : goal.returns
returns c = whole-finished
