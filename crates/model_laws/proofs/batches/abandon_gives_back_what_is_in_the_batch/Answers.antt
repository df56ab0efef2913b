use Rattle.model_laws.proofs.RequestStates.{request_state-abandon, others-abandon}
use Rattle.model_laws.proofs.batches.abandon_gives_back_what_is_in_the_batch.Goals as goal

pub returns : goal.returns
returns c = record { states = request_state-abandon; others = others-abandon }
