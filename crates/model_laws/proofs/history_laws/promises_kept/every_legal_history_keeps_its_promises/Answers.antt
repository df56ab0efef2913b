use Rattle.model_laws.proofs.history_laws.KeptHistory.{keeps_promises}
use Rattle.model_laws.proofs.history_laws.promises_kept.every_legal_history_keeps_its_promises.Goals as goal

pub returns : goal.returns
returns c = keeps_promises
