-- What only lemmas and lower contracts use beside Resuming.antt.
use Rattle.std.specs.Prelude.{◌≡◌, ℕ, ◌≤◌, length}
use Rattle.ride_model.specs.History.{fed_commands}
use Rattle.ride_model.specs.inner.Limits.{most_earlier_commands}
use Rattle.ride_model.specs.Road.{RoadMap}
use Rattle.ride_model.specs.State.{open_batch_of}
use Rattle.board_core.specs.Recorded.{state_of}
use Rattle.live_sessions.specs.declared.resuming.Interrupted.{Interrupted}

-- a session may go on from a board over this map, with the batches that its desks have open, whose feeds gave few commands
pub record MayGoOn (roads : RoadMap) (interrupted : Interrupted) : Type 0 where
  pub roads_are : interrupted.board.start.roads ≡ roads
  pub first_is : interrupted.first ≡ open_batch_of (state_of interrupted.board) 1
  pub second_is : interrupted.second ≡ open_batch_of (state_of interrupted.board) 2
  pub few : (feed : ℕ) → length (fed_commands feed interrupted.board.history) ≤ most_earlier_commands
