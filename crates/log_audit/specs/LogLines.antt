-- What is read of a log, line by line.
use Rattle.std.specs.Prelude.{ℕ, List, Option}
use Rattle.ride_ports.specs.Bytes.{Reads}

-- some bytes of a source were taken
abbrev pub TakesSome : Option (List ℕ) → Option (List ℕ) → Type 0
TakesSome before left = (taken : List ℕ) × Reads before left taken
