use Rattle.model_laws.proofs.history_laws.EveryState.{equal_records}
use Rattle.model_laws.proofs.history_laws.consistency.equal_versions_are_equal_records.Goals as goal

pub returns : goal.returns
returns c = equal_records
