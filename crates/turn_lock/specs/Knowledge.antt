-- What a pass knows at the start and after each call.
use Rattle.std.specs.Prelude.{ℕ, ◌+◌, ◌-◌, true, false, List, [], ◌∷◌, ◌++◌, length, drop}
use Rattle.turn_lock.specs.declared.rule.Knowledge.{Knowledge}
use Rattle.turn_lock.specs.inner.History.{items_of, longer}

module _ {R I : Type 0} where
  -- the pass of number 0 has seen the history as it stands
  abbrev pub at_start : (I → ℕ) → R → List I → ℕ → Knowledge R I
  at_start maker root history passes = record {
    number = 0;
    room = passes;
    out = 0;
    has_turn = false;
    root = root ∷ [];
    earlier = history;
    seen = history;
    own = items_of maker 0 history;
    ended = [];
  }

  -- the pass has the turn, and has seen the whole history
  abbrev pub after_enter : Knowledge R I → List I → Knowledge R I
  after_enter k history = record k { has_turn = true; seen = history }

  -- the turn was handed on
  abbrev pub after_leave : Knowledge R I → Knowledge R I
  after_leave k = record k { has_turn = false }

  -- the history has become this one, and the items that it has grown by are the pass's own
  abbrev pub after_note : Knowledge R I → List I → Knowledge R I
  after_note k history = record k { seen = history; own = k.own ++ drop (length k.seen) history }

  -- the last number of the room was given away
  abbrev pub after_split : Knowledge R I → Knowledge R I
  after_split k = record k { room = k.room - 1; out = k.out + 1 }

  -- the pass that gets this number has seen as much, and its items are those of before the lock was made
  abbrev pub split_off : (I → ℕ) → Knowledge R I → Knowledge R I
  split_off maker k = record {
    number = k.room - 1;
    room = 1;
    out = 0;
    has_turn = false;
    root = k.root;
    earlier = k.earlier;
    seen = k.seen;
    own = items_of maker (k.room - 1) k.earlier;
    ended = [];
  }

  -- the other pass came back, and its items stand with its number
  abbrev pub after_join : Knowledge R I → Knowledge R I → Knowledge R I
  after_join k other = record k { seen = longer k.seen other.seen; out = k.out - 1; ended = k.ended ++ record { number = other.number; items = other.own } ∷ [] }
