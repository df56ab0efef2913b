use Rattle.std.proofs.Common.{arith}
use Rattle.ride_bench.specs.Places.{settings}
use Rattle.ride_bench.proofs.AskedAt.{asked_at}
use Rattle.ride_bench.proofs.places.time_plain.Goals as goal

pub best_place-requires : goal.best_place-requires
best_place-requires g c =
    asked_at c.args.vehicle.now c.args.ride.now settings c.args.near.now c.loop-now.now c.requires.asked c.requires.near (omega (arith, c.requires.turns))
