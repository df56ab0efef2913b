use Rattle.board_core.proofs.Common.{length, ap, arith, Ride, is_in, state_in}
use Rattle.board_core.proofs.Few.{few-kept}
use Rattle.board_core.proofs.service.waiting.standing.Goals as goal

pub push-requires : goal.push-requires
push-requires c =
    omega (
      arith,
      ap length c.loop-ride.invariant,
      few-kept (λ (ride : Ride). ride.id) (λ (ride : Ride). is_in c.args.number (state_in c.args.requests.now ride.id)) c.args.rides.now
          c.loop-ride.ride-index,
      c.requires,
      c.loop-ride-test.true,
    )
