-- What becomes of the views, and what each step of the lock tells its caller.
use Rattle.std.specs.Prelude.{◌≡◌, ◌≢◌, ℕ, ◌+◌, ◌<◌, Bool, true, false, List, [], ◌∷◌, length, Option, Some, None}
use mathlib.Core.List.{IsPrefix}
use Rattle.atomic_table.specs.Table.{Me, Step, rest}
use Rattle.turn_lock.specs.declared.rule.Knowledge.{Knowledge}
use Rattle.turn_lock.specs.declared.rule.View.{View}
use Rattle.turn_lock.specs.inner.History.{items_of, EndedStand}
use Rattle.turn_lock.specs.Knowledge.{at_start, after_enter, after_leave, after_note, after_split, split_off, after_join}

module _ {R I : Type 0} where
  -- the view with this knowledge
  abbrev pub with_knowledge : View R I → Knowledge R I → View R I
  with_knowledge v k = record v { knowledge = k }

  -- the view of the first seat
  abbrev pub first_view : (I → ℕ) → R → List I → ℕ → View R I
  first_view maker root history passes = record { is_live = true; knowledge = at_start maker root history passes; first_seen = []; second_seen = []; was_out = 1 }

  -- what is left of the view of number 0 after a split, and what the new seat gets
  abbrev pub left_of : View R I → View R I
  left_of v = record v { knowledge = after_split v.knowledge; was_out = v.was_out + 1 }

  abbrev pub right_of : (I → ℕ) → View R I → View R I
  right_of maker v = record { is_live = true; knowledge = split_off maker v.knowledge; first_seen = []; second_seen = []; was_out = 1 }

  -- what the view of number 0 becomes as another is joined into it, and what is left of the other
  abbrev pub both_of : View R I → View R I → View R I
  both_of v w = record { is_live = v.is_live; knowledge = after_join v.knowledge w.knowledge; first_seen = v.knowledge.seen; second_seen = w.knowledge.seen; was_out = v.knowledge.out }

  abbrev pub spent_view : View R I
  spent_view = record {
    is_live = false;
    knowledge = record { number = 0; room = 0; out = 0; has_turn = false; root = []; earlier = []; seen = []; own = []; ended = [] };
    first_seen = [];
    second_seen = [];
    was_out = 0;
  }

  -- after a join: what both had seen begins what the pass has seen, and one pass less is out
  pub record IsJoined (v : View R I) : Type 0 where
    pub first_is : IsPrefix v.first_seen v.knowledge.seen
    pub second_is : IsPrefix v.second_seen v.knowledge.seen
    pub came_back : v.knowledge.number ≡ 0 → v.was_out ≡ v.knowledge.out + 1

module _ {T R I : Type 0} (root : T → R) (history : T → List I) (maker : I → ℕ) where
  -- the value fits what the pass knew
  pub record Continues (k : Knowledge R I) (x : T) : Type 0 where
    pub root_is : k.root ≡ root x ∷ []
    pub seen_is : IsPrefix k.seen (history x)
    pub own_is : items_of maker k.number (history x) ≡ k.own
    pub ended_are : k.number ≡ 0 → EndedStand maker k.ended (history x)

  -- the slot was taken, with a value that fits
  abbrev pub Takes : Me (Option T) (View R I) → Me (Option T) (View R I) → Type 0
  Takes m m' = (x : T) × (m' ≡ (with_knowledge m.0 (after_enter m.0.knowledge (history x)), (0, Some x) ∷ m.1)) × Continues m.0.knowledge x

  -- where the turn was free it was taken with the value; else nothing changed, and another pass is out
  abbrev pub Grabs : Step (Option T) → Me (Option T) (View R I) → ℕ → Me (Option T) (View R I) → Type 0
  Grabs st m found m' = (found ≡ 0 → Takes m m') × (found ≢ 0 → (m' ≡ m) × (m.0.knowledge.number ≡ 0 → 0 < m.0.knowledge.out))

module _ {T R I : Type 0} (history : T → List I) where
  -- the view that knows the value in the slot
  abbrev pub with_note : View R I → List (ℕ × Option T) → View R I
  with_note v [] = v
  with_note v ((k, None) ∷ _) = v
  with_note v ((k, Some x) ∷ _) = with_knowledge v (after_note v.knowledge (history x))

  -- the item was counted, and is the pass's own
  abbrev pub Notes : Step (Option T) → Me (Option T) (View R I) → ℕ → Me (Option T) (View R I) → Type 0
  Notes st m found m' = m' ≡ (with_note m.0 m.1, m.1)

-- what a seat holds between two calls: the empty slot while it has the turn
abbrev pub slots_of : {T : Type 0} → Bool → List (ℕ × Option T)
slots_of true = (0, None) ∷ []
slots_of false = []

module _ {T R I : Type 0} where
  -- the turn and the slot were given back
  abbrev pub HandsOn : Step (Option T) → Me (Option T) (View R I) → ℕ → Me (Option T) (View R I) → Type 0
  HandsOn st m found m' = m' ≡ (with_knowledge m.0 (after_leave m.0.knowledge), rest m.1)

  -- nothing changed, and what holds after a join was learned; with the turn, the history was found as long as what was seen
  abbrev pub Looks : Step (Option T) → Me (Option T) (View R I) → ℕ → Me (Option T) (View R I) → Type 0
  Looks st m found m' = (m' ≡ m) × IsJoined m.0 × (m.0.knowledge.has_turn ≡ true → found ≡ length m.0.knowledge.seen)
