use Rattle.model_laws.proofs.Certificates.{certified_is_least}
use Rattle.model_laws.proofs.duality.certified_seating_is_least.Goals as goal

pub returns : goal.returns
returns c = certified_is_least
