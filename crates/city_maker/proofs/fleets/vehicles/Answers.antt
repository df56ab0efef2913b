use Rattle.city_maker.proofs.Common.{vehicle_of}
use Rattle.city_maker.proofs.ListsOfRanges.{map-pushed}
use Rattle.city_maker.proofs.fleets.vehicles.Goals as goal

pub loop-before-preserved : goal.loop-before-preserved
loop-before-preserved c = record {
  made = map-pushed (vehicle_of c.args.plan.now) c.loop-before.before _ _ _ c.in_ok-push.ensures.items c.loop-before.invariant.made c.vehicle.ensures.vehicle;
  drawn = c.vehicle.ensures.drawn;
}
