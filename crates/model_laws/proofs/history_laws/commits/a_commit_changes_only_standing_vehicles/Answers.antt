use Rattle.model_laws.proofs.history_laws.Unmoved.{unmoved-by_commit}
use Rattle.model_laws.proofs.history_laws.commits.a_commit_changes_only_standing_vehicles.Goals as goal

pub returns : goal.returns
returns c = unmoved-by_commit
