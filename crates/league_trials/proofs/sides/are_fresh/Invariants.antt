use Rattle.std.proofs.Common.{take}
use Rattle.std.specs.Prelude.{All}
use Rattle.board_core.specs.Recorded.{state_of}
use Rattle.league_trials.specs.Sides.{IsFreshRide}
use Rattle.league_trials.proofs.sides.are_fresh.Given as goal

-- those so far are fresh
abbrev pub invariant-loop-ride : goal.invariant-loop-ride
invariant-loop-ride l = All (IsFreshRide l.nodes (state_of l.board)) (take l.ride-index l.rides)
