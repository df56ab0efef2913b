use Rattle.model_laws.proofs.RequestStates.{request_state-opening, others-opening, rides-opening}
use Rattle.model_laws.proofs.batches.opening_changes_nothing_else.Goals as goal

pub returns : goal.returns
returns c = record { states = request_state-opening; others = others-opening; rides = rides-opening }
