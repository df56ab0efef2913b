-- The rule of the lock's table.
use Rattle.std.specs.Prelude.{◌≡◌, ℕ, ◌+◌, ◌<◌, ◌≤◌, ◌==◌, Bool, true, ◌&&◌, not, List, [], ◌∷◌, length, count_by, All, Option, Some, None}
use mathlib.Core.List.{IsPrefix}
use mathlib.Core.Option.{none, some}
use mathlib.Core.Option as maybe
use lib.ListN.{get_elem?}
use Rattle.atomic_table.specs.Table.{State}
use Rattle.turn_lock.specs.declared.rule.View.{View}
use Rattle.turn_lock.specs.inner.History.{items_of, EndedStand}

-- where the value is: at home, or away with a seat
pub data Spot (T : Type 0) : Type 0 where
  home : T → Spot T
  away : ℕ → Spot T

-- word 1, and the one slot
abbrev pub turn_of : {T : Type 0} → Spot T → ℕ
turn_of (home x) = 0
turn_of (away j) = 1

abbrev pub homes_of : {T : Type 0} → Spot T → List (maybe.Option (Option T))
homes_of (home x) = some (Some x) ∷ []
homes_of (away j) = none ∷ []

module _ {R I : Type 0} where
  -- a live view of another number than 0
  abbrev pub is_other : View R I → Bool
  is_other v = v.is_live && not (v.knowledge.number == 0)

  -- how many there are
  abbrev pub others_in : List (View R I) → ℕ
  others_in views = count_by is_other views

module _ {T R I : Type 0} (root : T → R) (history : T → List I) (maker : I → ℕ) (origin : R) where
  -- The value at home has the standing history. Where it is away, a live view has the turn
  abbrev pub Stands : List I → List (View R I) → Spot T → Type 0
  Stands log views (home x) = (history x ≡ log) × (root x ≡ origin)
  Stands log views (away j) = (v : View R I) × (get_elem? views j ≡ some v) × (v.is_live ≡ true) × (v.knowledge.has_turn ≡ true)

  -- What the pass of number 0 knows of the others. `owner` says which live seat has a number.
  -- The numbers from 1 to `room - 1` were not given yet, and have no items but those of before the lock was made. Those that have ended are no seat's and are not given again, and their items stand.
  -- No more than `out` other views are live. `was_out` is what `out` was before the last pass came back.
  pub record Leads (log : List I) (owner : ℕ → Option ℕ) (others : ℕ) (v : View R I) : Type 0 where
    pub not_given : (n : ℕ) → 0 < n → n < v.knowledge.room → (owner n ≡ None) × (items_of maker n log ≡ items_of maker n v.knowledge.earlier)
    pub ended_gone : All (λ e. (owner e.number ≡ None) × (v.knowledge.room ≤ e.number)) v.knowledge.ended
    pub ended_stand : EndedStand maker v.knowledge.ended log
    pub counted : others ≤ v.knowledge.out
    pub came_back : v.was_out ≡ v.knowledge.out + 1

  -- What a live view knows: the root; a beginning of the standing history; the items of its number, which is no other seat's.
  -- Where it has the turn, the value is away with its seat, and it has seen the whole standing history.
  pub record Fits (log : List I) (spot : Spot T) (owner : ℕ → Option ℕ) (others seat : ℕ) (v : View R I) : Type 0 where
    pub root_is : v.knowledge.root ≡ origin ∷ []
    pub seen_is : IsPrefix v.knowledge.seen log
    pub own_is : v.knowledge.own ≡ items_of maker v.knowledge.number log
    pub owned : owner v.knowledge.number ≡ Some seat
    pub turn_is : v.knowledge.has_turn ≡ true → (spot ≡ away seat) × (v.knowledge.seen ≡ log)
    pub first_is : IsPrefix v.first_seen v.knowledge.seen
    pub second_is : IsPrefix v.second_seen v.knowledge.seen
    pub leads : v.knowledge.number ≡ 0 → Leads log owner others v

  -- The rule: word 0 is the length of the standing history, word 1 says whether the turn is taken, and the slot is at home where it is not.
  -- The standing history is that of the value at home. While the value is away it grows by the item that its taker notes.
  pub record IsKept (s : State (Option T) (View R I)) : Type 0 where
    pub log : List I
    pub spot : Spot T
    pub owner : ℕ → Option ℕ
    pub words : s.words ≡ length log ∷ turn_of spot ∷ []
    pub homes : s.homes ≡ homes_of spot
    pub stands : Stands log s.views spot
    pub each_live : (seat : ℕ) (v : View R I) → get_elem? s.views seat ≡ some v → v.is_live ≡ true → Fits log spot owner (others_in s.views) seat v
