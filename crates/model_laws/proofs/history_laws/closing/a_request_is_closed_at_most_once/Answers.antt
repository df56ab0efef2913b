use Rattle.model_laws.proofs.history_laws.Closings.{closed_at_most_once}
use Rattle.model_laws.proofs.history_laws.closing.a_request_is_closed_at_most_once.Goals as goal

pub returns : goal.returns
returns c = closed_at_most_once
