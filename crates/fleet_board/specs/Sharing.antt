-- Passes that may use a shared board.
use Rattle.ride_model.specs.declared.entry.Entry.{Entry}
use Rattle.board_core.specs.Recorded.{Recorded}
use Rattle.turn_lock.specs.declared.chronicle.Chronicle.{Ghosts}
use Rattle.turn_lock.specs.declared.lock.Pass.{Pass}
use Rattle.turn_lock.specs.Passes.{MayEnter}
use Rattle.fleet_board.specs.declared.shared.Kept.{Kept}
use Rattle.fleet_board.specs.declared.shared.SharedBoard.{SharedBoard}

module _ {g : Ghosts Kept Recorded Entry} where
  -- it is a pass of this board, and holds no turn
  abbrev pub MayUse : SharedBoard → Pass Kept Recorded Entry g → Type 0
  MayUse board pass = MayEnter board.lock pass
