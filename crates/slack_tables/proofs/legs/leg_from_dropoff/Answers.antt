use Rattle.slack_tables.proofs.Common.{NearStop, after-read}
use Rattle.slack_tables.proofs.legs.leg_from_dropoff.Goals as goal

pub returns-clause-value : goal.returns-clause-value
returns-clause-value c = after-read (λ (stop : NearStop). stop.to_here) c.args.stops.now c.args.place _ c.requires.within
