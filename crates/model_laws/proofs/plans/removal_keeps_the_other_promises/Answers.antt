use Rattle.model_laws.proofs.Removal.{keeps_ride-without, breaks_ride-without}
use Rattle.model_laws.proofs.plans.removal_keeps_the_other_promises.Goals as goal

pub returns : goal.returns
returns c = record { kept = keeps_ride-without; not_broken = breaks_ride-without }
