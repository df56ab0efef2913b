-- What a contract sees of the room that a sweep writes to.
use Rattle.std.specs.Prelude.{ℕ}

-- the number of places that it has
pub record Places : Type 0 where
  pub places : ℕ
