use Rattle.std.proofs.Common.{arith}
use Rattle.ride_bench.specs.Places.{settings}
use Rattle.ride_bench.proofs.AskedAt.{asked_at, slack_at}
use Rattle.ride_bench.proofs.places.time_fast.Goals as goal

pub best_place_fast-requires-clause-asked : goal.best_place_fast-requires-clause-asked
best_place_fast-requires-clause-asked g c =
    asked_at c.args.vehicle.now c.args.ride.now settings c.args.near.now c.loop-now.now c.requires.asked c.requires.near (omega (arith, c.requires.turns))

pub best_place_fast-requires-clause-slack : goal.best_place_fast-requires-clause-slack
best_place_fast-requires-clause-slack g c =
    slack_at c.args.vehicle.now c.args.slack.now 0 30 c.loop-now.now c.requires.drives c.requires.slack
