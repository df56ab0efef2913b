use Rattle.stop_plans.proofs.Legs.{legs_are_bounded}
use Rattle.stop_plans.proofs.stop_times.times.Goals as goal

pub times_along-requires-clause-legs : goal.times_along-requires-clause-legs
times_along-requires-clause-legs c = rw c.as_slice.ensures.value (legs_are_bounded c.args.vehicle.now c.requires.routed)
