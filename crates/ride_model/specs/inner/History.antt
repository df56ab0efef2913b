-- What only lemmas and lower contracts use beside History.antt.
use Rattle.std.specs.Prelude.{◌≡◌, List, [], ◌∷◌, ◌++◌}
use Rattle.ride_model.specs.declared.entry.Entry.{Entry}

-- what a pass of an actor knows: the part of the one history that it has seen, and its actor's entries in it
pub record Pass : Type 0 where
  pub seen : List Entry
  pub own : List Entry

-- a call that appends nothing stands at a point after what the pass had seen, and it has now seen up to that point
pub record Sees (old new : Pass) : Type 0 where
  pub goes_on : (between : List Entry) × (new.seen ≡ old.seen ++ between)
  pub own_stays : new.own ≡ old.own

-- a call that appends an entry stands at a point after what the pass had seen, and it has now seen up to and with it
pub record Appends (old new : Pass) (entry : Entry) : Type 0 where
  pub goes_on : (between : List Entry) × (new.seen ≡ old.seen ++ between ++ entry ∷ [])
  pub own_grows : new.own ≡ old.own ++ entry ∷ []
