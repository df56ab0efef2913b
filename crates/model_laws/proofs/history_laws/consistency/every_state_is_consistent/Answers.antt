use Rattle.model_laws.proofs.history_laws.EveryState.{consistent}
use Rattle.model_laws.proofs.history_laws.consistency.every_state_is_consistent.Goals as goal

pub returns : goal.returns
returns c = consistent
