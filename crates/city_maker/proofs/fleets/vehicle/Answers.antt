use Rattle.city_maker.proofs.VehicleLemmas.{made-is}
use Rattle.city_maker.proofs.fleets.vehicle.Goals as goal

pub returns-clause-vehicle : goal.returns-clause-vehicle
returns-clause-vehicle c =
    made-is c.args.plan.now c.args.before c.from.result c.draw.result c.new.result.items c.new-2.result.items c.from.ensures
    (c.draw.ensures.value _ _ c.requires.drawn) c.new.ensures c.new-2.ensures
