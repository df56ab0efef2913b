use Rattle.stop_plans.proofs.Common.{sym}
use Rattle.stop_plans.proofs.InsertedLegs.{relegged-set, relegged-past}
use Rattle.stop_plans.proofs.insert.set_leg.Goals as goal

pub returns-then-place-stops : goal.returns-then-place-stops
returns-then-place-stops c = relegged-set c.args.place c.args.leg c.args.stops.now _ c.if-place-stops.true

pub returns-else-place-stops : goal.returns-else-place-stops
returns-else-place-stops c = sym (relegged-past c.args.place c.args.leg c.args.stops.now c.if-place-stops.false)
