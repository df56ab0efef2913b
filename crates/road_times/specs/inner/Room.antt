-- what a contract sees of a `Scratch`
use Rattle.std.specs.Prelude.{ℕ}

-- the number of nodes of the networks that a scratch serves
pub record Room : Type 0 where
  pub nodes : ℕ
