use Rattle.std.proofs.Common.{◌≡◌, [], ◌∷◌}
use Rattle.turn_lock.specs.Passes.{knowledge}
use Rattle.fleet_board.specs.inner.Passes.{IsPoint}
use Rattle.fleet_board.specs.Sharing.{MayUse}
use Rattle.idle_moves.specs.inner.Watch.{Watches, watched_ids}
use Rattle.board_trials.proofs.boards.shared.expect_versions.Given as goal

-- the watch has gone on with the pass
abbrev pub invariant-loop-step : goal.invariant-loop-step
invariant-loop-step g l = record {
  pass : MayUse l.board l.scribe;
  point : IsPoint (knowledge l.scribe);
  watches : Watches (knowledge l.scribe) l.watch;
  vehicle : watched_ids l.watch ≡ 1 ∷ [];
}
