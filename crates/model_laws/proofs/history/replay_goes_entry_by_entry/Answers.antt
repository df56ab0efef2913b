use Rattle.model_laws.proofs.Histories.{replay-append}
use Rattle.model_laws.proofs.history.replay_goes_entry_by_entry.Goals as goal

pub returns : goal.returns
returns c = replay-append
