-- The passes of a shared board, when it starts and when it is closed.
use Rattle.std.specs.Prelude.{◌≡◌, ℕ, if◌then◌else◌, false, List, [], ◌∷◌, Option, is_some}
use mathlib.Core.List.{IsPrefix}
use Rattle.ride_model.specs.declared.command.Actor.{Actor}
use Rattle.ride_model.specs.declared.entry.Entry.{Entry}
use Rattle.ride_model.specs.History.{entries_of}
use Rattle.board_core.specs.Recorded.{Recorded}
use Rattle.turn_lock.specs.declared.chronicle.Chronicle.{Ghosts}
use Rattle.turn_lock.specs.declared.lock.Pass.{Pass}
use Rattle.turn_lock.specs.declared.lock.TurnLock.{TurnLock}
use Rattle.turn_lock.specs.inner.History.{items_of}
use Rattle.turn_lock.specs.Passes.{MayEnter, knowledge}
use Rattle.fleet_board.specs.declared.shared.Kept.{Kept}
use Rattle.fleet_board.specs.declared.shared.SharedBoard.{SharedBoard}
use Rattle.fleet_board.specs.inner.Openings.{HasNoneOpen}
use Rattle.fleet_board.specs.inner.Passes.{Known, IsPoint, IsFeed, IsDesk, maker_of}
use Rattle.fleet_board.specs.Sharing.{MayUse}
use Rattle.fleet_board.specs.inner.Turns.{as_began}

-- a pass of this number that has seen the history of a board as it stands
abbrev pub newcomer : Recorded → ℕ → Known
newcomer board number = record {
  number = number;
  room = 1;
  out = 0;
  has_turn = false;
  root = as_began board ∷ [];
  earlier = board.history;
  seen = board.history;
  own = items_of maker_of number board.history;
  ended = [];
}

-- what a pass has seen begins the history, and its own entries are all that the history has of its actor
pub record IsPartOf (history : List Entry) (actor : Actor) (k : Known) : Type 0 where
  pub seen_first : IsPrefix k.seen history
  pub own_all : k.own ≡ entries_of actor history

-- one where there is a value
abbrev pub one_if_some : {T : Type 0} → Option T → ℕ
one_if_some value = if is_some value then 1 else 0

module _ {T A : Type 0} {g : Ghosts T Recorded Entry} where
  -- a pass of this number and lock, which holds no turn
  abbrev pub IsBackTo : TurnLock T A Recorded Entry → ℕ → Pass T Recorded Entry g → Type 0
  IsBackTo lock number pass = MayEnter lock pass × ((knowledge pass).number ≡ number)

module _ {g : Ghosts Kept Recorded Entry} where
  -- the same of a shared board
  abbrev pub IsBack : SharedBoard → ℕ → Pass Kept Recorded Entry g → Type 0
  IsBack board number pass = MayUse board pass × ((knowledge pass).number ≡ number)

  -- a new pass of this number, which may be used, of a board as it stood when it was shared
  abbrev pub IsNew : SharedBoard → Recorded → ℕ → Pass Kept Recorded Entry g → Type 0
  IsNew board before number pass = MayUse board pass × (knowledge pass ≡ newcomer before number)

  -- and it stands at the end of that board's history
  abbrev pub IsNewPass : SharedBoard → Recorded → ℕ → Pass Kept Recorded Entry g → Type 0
  IsNewPass board before number pass = IsNew board before number pass × IsPoint (knowledge pass)

  -- a new pass of a feed, or of a desk, which has not ended
  abbrev pub IsNewFeed : SharedBoard → Recorded → ℕ → Pass Kept Recorded Entry g → Type 0
  IsNewFeed board before number pass = IsNew board before number pass × IsPoint (knowledge pass) × IsFeed (knowledge pass)

  abbrev pub IsNewDesk : SharedBoard → Recorded → ℕ → Pass Kept Recorded Entry g → Type 0
  IsNewDesk board before number pass =
      IsNew board before number pass × IsPoint (knowledge pass) × IsDesk (knowledge pass) × HasNoneOpen (knowledge pass)
