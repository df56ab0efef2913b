-- What clauses read of a lock and of a pass.
use Rattle.std.specs.Prelude.{◌≡◌, true, false, [], ◌∷◌}
use Rattle.turn_lock.specs.declared.chronicle.Chronicle.{Ghosts}
use Rattle.turn_lock.specs.declared.rule.Knowledge.{Knowledge}
use Rattle.turn_lock.specs.declared.lock.Pass.{Pass}
use Rattle.turn_lock.specs.declared.lock.TurnLock.{TurnLock}

module _ {T R I : Type 0} {g : Ghosts T R I} where
  -- what the pass knows
  abbrev pub knowledge : Pass T R I g → Knowledge R I
  knowledge pass = pass.seat.me.0.knowledge

  -- the values under the pass's lock have this root
  abbrev pub HasRoot : Pass T R I g → R → Type 0
  HasRoot pass root = (knowledge pass).root ≡ root ∷ []

module _ {T A R I : Type 0} {g : Ghosts T R I} where
  -- it is a pass of this lock
  abbrev pub IsPassOf : TurnLock T A R I → Pass T R I g → Type 0
  IsPassOf lock pass = pass.seat.table_id ≡ lock.table.shared.table_id

  -- it is a pass of this lock, and holds no turn
  abbrev pub MayEnter : TurnLock T A R I → Pass T R I g → Type 0
  MayEnter lock pass = IsPassOf lock pass × ((knowledge pass).has_turn ≡ false)

  -- it is a pass of this lock, and holds the turn
  abbrev pub MayLeave : TurnLock T A R I → Pass T R I g → Type 0
  MayLeave lock pass = IsPassOf lock pass × ((knowledge pass).has_turn ≡ true)
