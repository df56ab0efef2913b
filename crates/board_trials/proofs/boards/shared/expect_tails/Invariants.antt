use Rattle.turn_lock.specs.Passes.{knowledge}
use Rattle.fleet_board.specs.inner.Passes.{IsPoint}
use Rattle.fleet_board.specs.Sharing.{MayUse}
use Rattle.board_trials.proofs.boards.shared.expect_tails.Given as goal

-- the pass may be used again
abbrev pub invariant-loop-from : goal.invariant-loop-from
invariant-loop-from g l = record {
  pass : MayUse l.board l.scribe;
  point : IsPoint (knowledge l.scribe);
}
