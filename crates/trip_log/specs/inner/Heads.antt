-- The numbers of a head.
use Rattle.std.specs.Prelude.{ℕ, ◌==◌, if◌then◌else◌, List, get_or, Option, Some, None}

-- the number that a byte is as a digit, where that is 1 or 2
abbrev pub digit_of : ℕ → Option ℕ
digit_of byte = if byte == 49 then Some 1 else (if byte == 50 then Some 2 else None)

-- the digit 1 or 2 at a place
abbrev pub digit_from : List ℕ → ℕ → Option ℕ
digit_from line place = digit_of (get_or line place 0)
