-- The passes of a board that was shared as it began.
use Rattle.std.proofs.Common.{ℕ, ap}
use Rattle.ride_model.specs.declared.entry.Entry.{Entry}
use Rattle.board_core.specs.Recorded.{Recorded}
use Rattle.turn_lock.specs.declared.chronicle.Chronicle.{Ghosts}
use Rattle.turn_lock.specs.declared.lock.Pass.{Pass}
use Rattle.fleet_board.specs.declared.shared.Kept.{Kept}
use Rattle.fleet_board.specs.declared.shared.SharedBoard.{SharedBoard}
use Rattle.fleet_board.specs.inner.Passes.{Known}
use Rattle.fleet_board.specs.inner.Sets.{IsNewFeed}
use Rattle.fleet_board.specs.inner.Turns.{as_began}
use Rattle.ride_bench.specs.Shared.{MayBegin}

module _ {g : Ghosts Kept Recorded Entry} where
  -- a new feed's pass may begin
  pub begins : (board : SharedBoard) (before : Recorded) (number : ℕ) (pass : Pass Kept Recorded Entry g)
      → IsNewFeed board (as_began before) number pass → MayBegin board pass
  begins board before number pass new = record {
    feed = record { may_use = new.0.0; point = new.1; feed = new.2 };
    nothing_yet = ap (λ (k : Known). k.own) new.0.1;
  }
