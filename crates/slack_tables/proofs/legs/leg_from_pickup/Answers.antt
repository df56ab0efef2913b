use Rattle.slack_tables.proofs.Common.{NearStop, after-read}
use Rattle.slack_tables.proofs.legs.leg_from_pickup.Goals as goal

pub returns-clause-value : goal.returns-clause-value
returns-clause-value c = after-read (λ (stop : NearStop). stop.from_here) c.args.stops.now c.args.place _ c.requires.within
