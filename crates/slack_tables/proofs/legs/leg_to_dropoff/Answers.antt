use Rattle.slack_tables.proofs.Common.{arith, NearStop, before-read}
use Rattle.slack_tables.proofs.legs.leg_to_dropoff.Goals as goal

pub returns-else-place-eq0-clause-value : goal.returns-else-place-eq0-clause-value
returns-else-place-eq0-clause-value c =
    before-read c.args.first (λ (stop : NearStop). stop.to_to) c.args.stops.now c.args.place _ (omega arith) c.requires.within
