use Rattle.std.proofs.Common.{rules}
use Rattle.seating_trials.proofs.desk.ThreeVehicles.{three-fleet}
use Rattle.seating_trials.proofs.desk.orders.fleet.Goals as goal

pub new-requires : goal.new-requires
new-requires g c =
    three-fleet c.expect.result.items c.vehicle.result c.vehicle-2.result c.vehicle-3.result (search rules)
    c.vehicle.ensures.id c.vehicle-2.ensures.id c.vehicle-3.ensures.id
