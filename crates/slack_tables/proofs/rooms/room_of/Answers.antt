use Rattle.slack_tables.proofs.Common.{arith}
use Rattle.slack_tables.proofs.Ranges.{room_of-le}
use Rattle.slack_tables.proofs.rooms.room_of.Goals as goal

pub loop-trip-init : goal.loop-trip-init
loop-trip-init c = record {
  so_far = omega (arith, room_of-le c.args.trips.now c.args.change c.args.place);
  bounded = omega arith;
}
