use Rattle.insertion.proofs.Common.{NearStop}
use Rattle.insertion.proofs.NearLegs.{after-read, after-none}
use Rattle.insertion.proofs.joins.after_pickup.Goals as goal

pub returns-then-place-stops : goal.returns-then-place-stops
returns-then-place-stops c = after-read (λ (stop : NearStop). stop.from_here) c.args.stops.now c.args.place _ c.if-place-stops.true

pub returns-else-place-stops : goal.returns-else-place-stops
returns-else-place-stops c = after-none (λ (stop : NearStop). stop.from_here) c.args.stops.now c.args.place c.if-place-stops.false
