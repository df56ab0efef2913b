use Rattle.insertion.proofs.Common.{arith, NearStop}
use Rattle.insertion.proofs.NearLegs.{before-read}
use Rattle.insertion.proofs.joins.to_dropoff.Goals as goal

pub returns-else-place-eq0 : goal.returns-else-place-eq0
returns-else-place-eq0 c =
    before-read c.args.first (λ (stop : NearStop). stop.to_to) c.args.stops.now c.args.place _ (omega arith) c.requires
