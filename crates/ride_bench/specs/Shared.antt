-- Passes of a shared board whose calls are timed.
use Rattle.std.specs.Prelude.{◌≡◌, []}
use Rattle.ride_model.specs.declared.entry.Entry.{Entry}
use Rattle.board_core.specs.Recorded.{Recorded}
use Rattle.turn_lock.specs.declared.chronicle.Chronicle.{Ghosts}
use Rattle.turn_lock.specs.declared.lock.Pass.{Pass}
use Rattle.turn_lock.specs.Passes.{knowledge}
use Rattle.fleet_board.specs.declared.shared.Kept.{Kept}
use Rattle.fleet_board.specs.declared.shared.SharedBoard.{SharedBoard}
use Rattle.fleet_board.specs.inner.Passes.{IsPoint}
use Rattle.fleet_board.specs.Roles.{MayFeed}
use Rattle.fleet_board.specs.Sharing.{MayUse}

module _ {g : Ghosts Kept Recorded Entry} where
  -- a feed's pass that has given nothing yet
  pub record MayBegin (board : SharedBoard) (pass : Pass Kept Recorded Entry g) : Type 0 where
    pub feed : MayFeed board pass
    pub nothing_yet : (knowledge pass).own ≡ []

  -- a pass that may look at the history
  pub record MayLook (board : SharedBoard) (pass : Pass Kept Recorded Entry g) : Type 0 where
    pub may_use : MayUse board pass
    pub point : IsPoint (knowledge pass)
