use Rattle.plan_trials.specs.SmallPlans.{four_nodes}
use Rattle.ride_bench.specs.Places.{settings}
use Rattle.plan_trials.proofs.NearInLine.{asked}
use Rattle.ride_bench.proofs.places.tables_of.Goals as goal

pub of-requires-clause-lawful : goal.of-requires-clause-lawful
of-requires-clause-lawful c =
    let all = asked c.args.vehicle.now c.args.ride.now settings c.requires.asked in (four_nodes, all.map_fits, all.lawful)

pub of-requires-clause-start_limit : goal.of-requires-clause-start_limit
of-requires-clause-start_limit c = (asked c.args.vehicle.now c.args.ride.now settings c.requires.asked).lawful.routed.ready_limit
