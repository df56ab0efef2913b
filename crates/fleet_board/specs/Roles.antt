-- What a pass has to be to feed, to open batches and to close them.
use Rattle.ride_model.specs.declared.entry.Entry.{Entry}
use Rattle.ride_model.specs.Seating.{BatchCopy}
use Rattle.board_core.specs.Recorded.{Recorded}
use Rattle.turn_lock.specs.declared.chronicle.Chronicle.{Ghosts}
use Rattle.turn_lock.specs.declared.lock.Pass.{Pass}
use Rattle.turn_lock.specs.Passes.{knowledge}
use Rattle.fleet_board.specs.declared.shared.Kept.{Kept}
use Rattle.fleet_board.specs.declared.shared.SharedBoard.{SharedBoard}
use Rattle.fleet_board.specs.inner.Openings.{HasNoneOpen, HasOpen}
use Rattle.fleet_board.specs.inner.Passes.{IsPoint, IsFeed, IsDesk}
use Rattle.fleet_board.specs.Sharing.{MayUse}

module _ {g : Ghosts Kept Recorded Entry} where
  -- a feed's pass
  pub record MayFeed (board : SharedBoard) (pass : Pass Kept Recorded Entry g) : Type 0 where
    pub may_use : MayUse board pass
    pub point : IsPoint (knowledge pass)
    pub feed : IsFeed (knowledge pass)

  -- a desk's pass, without an open batch
  pub record MayOpen (board : SharedBoard) (pass : Pass Kept Recorded Entry g) : Type 0 where
    pub may_use : MayUse board pass
    pub point : IsPoint (knowledge pass)
    pub desk : IsDesk (knowledge pass)
    pub none_open : HasNoneOpen (knowledge pass)

  -- a desk's pass with this open batch
  pub record MayCommit (board : SharedBoard) (pass : Pass Kept Recorded Entry g) (batch : BatchCopy) : Type 0 where
    pub may_use : MayUse board pass
    pub point : IsPoint (knowledge pass)
    pub desk : IsDesk (knowledge pass)
    pub open_now : HasOpen (knowledge pass) batch
