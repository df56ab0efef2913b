-- The lines of a feed that were taken when it ended or was stopped.
use Rattle.std.specs.Prelude.{◌≡◌, ℕ, false, List, Option, IfSome}
use mathlib.Core.List.{IsPrefix}
use Rattle.line_text.specs.Lines.{lines_of}
use Rattle.ride_ports.specs.declared.outcome.Ran.{Ran}

-- these are the first lines of a feed: of the bytes that were taken, and of all its bytes, where they are told
pub record AreFirstLines (feed : Option (List ℕ)) (taken : List ℕ) (lines : List (List ℕ)) : Type 0 where
  pub of_taken : IsPrefix lines (lines_of taken)
  pub of_feed : IfSome feed (λ bytes. IsPrefix lines (lines_of bytes))

-- neither the sink nor memory stood in the way
abbrev pub IsUnhindered : Ran → Type 0
IsUnhindered ran = (ran.sink_failed ≡ false) × (ran.no_memory ≡ false)

-- nothing kept the source from being read to its end
abbrev pub IsReadWhole : Ran → Type 0
IsReadWhole ran = (ran.source_failed ≡ false) × (ran.too_long ≡ false)
