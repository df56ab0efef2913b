use Rattle.model_laws.proofs.history_laws.Standing.{stay_closed}
use Rattle.model_laws.proofs.history_laws.closing.closed_requests_stay_closed.Goals as goal

pub returns : goal.returns
returns c = stay_closed
