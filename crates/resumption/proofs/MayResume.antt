-- A session may go on from what a log gave back.
use Rattle.resumption.proofs.Common.{◌≡◌, ℕ, List, ap, sym, subst, arith, RoadMap, State, start_state, Settings, Vehicle, IsBoardOf, Restored}
use Rattle.board_core.proofs.OpenBatches.{fed-le}
use Rattle.live_sessions.specs.inner.Resuming.{MayGoOn}
use Rattle.live_sessions.specs.declared.resuming.Interrupted.{Interrupted}

pub may-resume : (roads : RoadMap) (settings : Settings) (fleet : List Vehicle) (restored : Restored) (interrupted : Interrupted) (workers : ℕ)
    → IsBoardOf (start_state roads settings fleet) restored
    → interrupted ≡ record { board = restored.board; first = restored.first; second = restored.second; workers = workers }
    → MayGoOn roads interrupted
may-resume roads settings fleet restored interrupted workers stands is = subst (MayGoOn roads) (sym is) (record {
  roads_are = ap (λ (s : State). s.roads) stands.start_is;
  first_is = stands.first_is;
  second_is = stands.second_is;
  few = λ feed. omega (arith, fed-le feed restored.board.history, stands.few);
})
