use Rattle.model_laws.proofs.history_laws.RideCounts.{plans_short, rides_short}
use Rattle.model_laws.proofs.history_laws.consistency.plans_have_at_most_16_stops.Goals as goal

pub returns : goal.returns
returns c = record { stops = plans_short; rides = rides_short }
