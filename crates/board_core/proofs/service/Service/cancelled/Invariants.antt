use Rattle.board_core.proofs.Common.{◌≡◌, take, length, map, State, was_cancelled, ride_ids, Given, state_at}
use Rattle.board_core.proofs.service.Service.cancelled.Given as goal

-- the flags so far
abbrev pub invariant-loop-ride : goal.invariant-loop-ride
invariant-loop-ride l = record {
  flags : (setup : Given) (rest : State) → l.flags.items ≡ map (was_cancelled (state_at setup l.self rest)) (ride_ids (take l.ride-index l.rides));
  one_each : length l.flags.items ≡ l.ride-index;
}
